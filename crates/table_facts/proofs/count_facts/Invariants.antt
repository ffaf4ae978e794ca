-- `count_facts` meets its contract. The invariant: the ones in the words so far are counted. Assumes nothing.
use mathlib.Core.Path.{◌≡◌}
use Prim.Native.Nat.{◌*◌, ◌≤◌}
use Rattle.spec_ticks.specs.Ticks.{tally}
use Rattle.table_facts.proofs.count_facts.Given as goal

abbrev pub invariant-loop-w : goal.invariant-loop-w
invariant-loop-w l = (l.sum ≡ tally l.marks l.w-index) × (l.sum ≤ 64 * l.w-index)
