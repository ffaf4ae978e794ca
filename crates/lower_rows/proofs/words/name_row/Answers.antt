-- `name_row` meets its contract. Assumes nothing.
use native.Mathlib.Nat.{add-zero}
use Rattle.lower_rows.specs.RowCodes.{packed, row_code}
use Rattle.lower_rows.specs.RowWrites.{Lowers}
use Rattle.lower_rows.proofs.Runs.{nothing}
use Rattle.lower_rows.proofs.words.name_row.Goals as goal

pub returns-then-sense : goal.returns-then-sense
unfolding Lowers
returns-then-sense c = rw c.if-sense.true (nothing _ _ _ c.requires.used_in)

pub returns-else-sense : goal.returns-else-sense
unfolding Lowers row_code packed
returns-else-sense c =
    rw (c.if-sense.false, add-zero) c.push_row.ensures
