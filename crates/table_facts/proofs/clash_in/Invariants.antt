-- `clash_in` meets its contract. The invariant: no word of ticks before q has a clash. Assumes nothing.
use Prim.Native.Nat.{ℕ, ◌<◌}
use Rattle.table_facts.specs.Clashes.{ClashIn}
use Rattle.table_facts.proofs.clash_in.Given as goal

abbrev pub invariant-loop-q : goal.invariant-loop-q
invariant-loop-q l =
    (p : ℕ) → p < l.q → ClashIn l.n l.marks p → ⊥
