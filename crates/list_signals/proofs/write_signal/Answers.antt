-- `write_signal` meets its contract. Assumes nothing.
use Rattle.spec_tilco.specs.Table.Answer.{Unsettled}
use Rattle.write_bytes.proofs.Writing.{and_then_lem, counted_first, counted_rest}
use Rattle.list_signals.specs.Signals.{signal_text}
use Rattle.list_signals.proofs.write_signal.Goals as goal

pub write_name_line-requires : goal.write_name_line-requires
unfolding signal_text
write_name_line-requires c =
    counted_first _ (c.requires.1 (λ t. Unsettled))

pub write_marks_line-requires : goal.write_marks_line-requires
unfolding signal_text
write_marks_line-requires c =
    (c.requires.0, λ f. counted_rest (c.requires.1 f) c.write_name_line.ensures)

pub returns : goal.returns
unfolding signal_text
returns c =
    λ f a. and_then_lem c.write_name_line.ensures (c.write_marks_line.ensures f a)
