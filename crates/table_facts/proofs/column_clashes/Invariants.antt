-- `column_clashes` meets its contract. The invariant: no row before `row` has a tick of word q with both marks. Assumes nothing.
use mathlib.Core.Path.{◌≡◌}
use Prim.Native.Nat.{ℕ, ◌<◌}
use Rattle.table_facts.proofs.Clashing.{meeting}
use Rattle.table_facts.proofs.column_clashes.Given as goal

abbrev pub invariant-loop-row : goal.invariant-loop-row
invariant-loop-row l =
    (r : ℕ) → r < l.row → meeting l.n l.marks l.q r ≡ 0
