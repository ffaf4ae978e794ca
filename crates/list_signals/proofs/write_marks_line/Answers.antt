-- `write_marks_line` meets its contract. Assumes nothing.
use Rattle.spec_tilco.specs.Table.Answer.{Unsettled}
use Rattle.write_lines.proofs.Lines.{key_counted, value_counted, end_counted, line_written}
use Rattle.list_signals.proofs.Answered.{answers_there}
use Rattle.list_signals.proofs.write_marks_line.Goals as goal

pub push_text-requires : goal.push_text-requires
push_text-requires c =
    key_counted _ (c.requires.1 (λ t. Unsettled))

pub write_signs-requires : goal.write_signs-requires
write_signs-requires c =
    let given = c.requires in
    (given.0, λ f. value_counted (given.1 f) c.push_text.ensures)

pub push-requires : goal.push-requires
push-requires c =
    let g = answers_there c.requires.0 c.args.signal in
    end_counted (c.requires.1 g.0) c.push_text.ensures (c.write_signs.ensures g.0 g.1)

pub returns : goal.returns
returns c =
    λ f a. line_written c.push_text.ensures (c.write_signs.ensures f a) c.push.ensures
