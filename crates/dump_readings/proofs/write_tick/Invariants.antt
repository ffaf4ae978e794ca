-- `write_tick` meets its contract. The invariant: the signs of the signals from x on are left to be written. Assumes nothing.
use Rattle.read_names.specs.Spellings.{names_at}
use Rattle.write_bytes.proofs.Leaves.{Leaves}
use Rattle.dump_readings.specs.HeldSigns.{tick_text}
use Rattle.dump_readings.proofs.write_tick.Given as goal

abbrev pub invariant-loop-x : goal.invariant-loop-x
invariant-loop-x l = Leaves (tick_text (names_at l.s l.places) l.signs l.tick 0) l.initial.w (tick_text (names_at l.s l.places) l.signs l.tick l.x) l.w
