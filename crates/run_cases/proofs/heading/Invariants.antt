-- `heading` meets its contract. The invariant: the place lies between `at` and the end. Assumes nothing.
use Prim.Native.Nat.{◌-◌, ◌≤◌}
use lib.ListN.{length}
use Rattle.run_cases.proofs.heading.Given as goal

abbrev pub invariant-loop-p : goal.invariant-loop-p
invariant-loop-p l = (l.at ≤ l.p) × (l.p ≤ length l.cases)

abbrev pub decreases-loop-p : goal.decreases-loop-p
decreases-loop-p l = length l.cases - l.p
