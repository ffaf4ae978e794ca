-- `write_held` meets its contract. The invariant: the readings from `tick` on are left to be written. Assumes nothing.
use Prim.Native.Nat.{◌*◌, ◌≤◌}
use Rattle.read_names.specs.Spellings.{names_at}
use Rattle.write_bytes.proofs.Leaves.{Leaves}
use Rattle.dump_readings.specs.HeldSigns.{held_text, most_tick_bytes}
use Rattle.dump_readings.proofs.write_held.Given as goal

abbrev pub invariant-loop-tick : goal.invariant-loop-tick
invariant-loop-tick l =
    Leaves (held_text (names_at l.s l.places) l.signs l.first l.end) l.initial.w (held_text (names_at l.s l.places) l.signs l.tick l.end) l.w × (l.w.used ≤ most_tick_bytes * l.tick)
