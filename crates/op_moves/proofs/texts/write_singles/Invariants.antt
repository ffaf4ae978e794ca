-- `write_singles` meets its contract. The invariant: the readings at the ticks before `tick` are written. Assumes nothing.
use mathlib.Core.Bool.{false}
use Prim.Native.Nat.{◌+◌, ◌-◌}
use Rattle.read_names.specs.Spellings.{names_at}
use Rattle.read_reading.specs.Spans.{span}
use Rattle.write_readings.specs.EntryTexts.{entries_text}
use Rattle.join_spans.specs.Joining.{singles_from, singles}
use Rattle.op_moves.proofs.Progress.{Progress}
use Rattle.op_moves.proofs.texts.write_singles.Given as goal

abbrev pub invariant-loop-tick : goal.invariant-loop-tick
invariant-loop-tick l =
    Progress (entries_text false (names_at l.s l.places) (singles (span l.signal l.value l.first l.last))) (entries_text false (names_at l.s l.places) (singles_from l.signal l.value l.tick (l.last + 1 - l.tick))) l.initial.w l.w
