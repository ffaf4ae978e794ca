-- `times_at` meets its contract. The invariant: what is owed at `place` answers what was owed at the start. Assumes nothing.
use Prim.Native.Nat.{◌-◌}
use lib.ListN.{length}
use Rattle.read_parts.proofs.Timed.{Timing}
use Rattle.read_parts.proofs.parts.times_at.Given as goal

abbrev pub invariant-loop-b : goal.invariant-loop-b
invariant-loop-b l = Timing l.s l.initial.arena l.at l.used l.hidden l.arena l.place l.nodes

abbrev pub decreases-loop-b : goal.decreases-loop-b
decreases-loop-b l = length l.s - l.place
