-- `word_changes` meets its contract. The invariant: the ticks are those of the first `row` rows. Assumes nothing.
use Rattle.dump_changes.proofs.Rows.{none_change, one_more}
use Rattle.dump_changes.proofs.word_changes.Goals as goal

pub loop-row-init : goal.loop-row-init
loop-row-init c = none_change _ _ _

pub loop-row-preserved : goal.loop-row-preserved
loop-row-preserved c = one_more _ _ _ _ _ _ c.loop-row.invariant c.row_changes-ticks.ensures
