-- `write_run` meets its contract. Assumes nothing.
use Rattle.read_names.proofs.Names.{names_many}
use Rattle.op_moves.proofs.RunTexts.{whole_counted, whole_written, singles_counted, singles_written}
use Rattle.op_moves.proofs.texts.write_run.Goals as goal

pub write_entry-requires : goal.write_entry-requires
write_entry-requires c =
    (simp names_many at c.requires.0.signal, whole_counted _ _ c.if-spans.true c.requires.1)

pub write_singles-requires : goal.write_singles-requires
write_singles-requires c =
    (c.requires.0, singles_counted _ _ c.if-spans.false c.requires.1)

pub returns-then-spans : goal.returns-then-spans
returns-then-spans c =
    whole_written _ _ c.if-spans.true c.write_entry.ensures

pub returns-else-spans : goal.returns-else-spans
returns-else-spans c =
    singles_written _ _ c.if-spans.false c.write_singles.ensures
