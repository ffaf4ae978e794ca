-- `take_events` meets its contract. The invariant: whatever gives what is still owed at `at` has taken all events. Assumes nothing.
use mathlib.Core.Path.{◌≡◌}
use Prim.Native.Nat.{◌-◌}
use lib.ListN.{length}
use Rattle.read_names.specs.Spellings.{names_at}
use Rattle.dump_readings.proofs.Taking.{Takes}
use Rattle.dump_readings.proofs.take_events.Given as goal

abbrev pub invariant-loop-next : goal.invariant-loop-next
invariant-loop-next l =
    Takes l.window l.count (names_at l.s l.places) l.d l.p l.initial.w.out.now l.signs l.w.out.now l.w.used l.time l.next l.at × (l.w.out.ghost_name ≡ l.initial.w.out.ghost_name)

abbrev pub decreases-loop-next : goal.decreases-loop-next
decreases-loop-next l = length l.d - l.at
