-- `work_off` meets its contract. The invariant: all marks follow, what is not on the list is settled, and after the last round it is empty. Assumes nothing.
use mathlib.Core.Path.{◌≡◌}
use Prim.Native.Nat.{◌+◌}
use lib.ListN.{length}
use Rattle.spec_ticks.specs.Ticks.{Small}
use Rattle.table_words.specs.WordTicks.{room}
use Rattle.close_table.proofs.Finishing.{another, Toward}
use Rattle.close_table.proofs.rounds.work_off.Given as goal

abbrev pub invariant-loop-go : goal.invariant-loop-go
invariant-loop-go l =
    Small 64 l.marks × (length l.todo ≡ length l.initial.todo) × Toward l.on.count l.on.rows.now l.on.window l.n l.initial.marks l.marks l.todo l.go

abbrev pub decreases-loop-go : goal.decreases-loop-go
decreases-loop-go l = room l.marks + another l.go
