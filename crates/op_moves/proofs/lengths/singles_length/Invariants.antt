-- `singles_length` meets its contract. The invariant: the readings at the ticks before `tick` are added up, unless the limit is passed. Assumes nothing.
use mathlib.Core.Bool.{Bool, false}
use mathlib.Core.List.{List, []}
use mathlib.Core.Path.{◌≡◌}
use Prim.Native.Nat.{ℕ, ◌+◌, ◌-◌}
use lib.ListN.{length, get_or}
use Rattle.spec_limits.specs.Limits.{most_bytes}
use Rattle.read_reading.specs.Spans.{span}
use Rattle.write_readings.specs.EntryTexts.{entries_text}
use Rattle.join_spans.specs.Joining.{singles_from, singles}
use Rattle.op_moves.specs.Measures.{Measures}
use Rattle.op_moves.proofs.lengths.singles_length.Given as goal

abbrev pub invariant-loop-tick : goal.invariant-loop-tick
invariant-loop-tick l =
    (names : List (List ℕ)) (x : ℕ) (v : Bool) → length (get_or names x []) ≡ l.name
    → Measures most_bytes (l.used + length (entries_text false names (singles (span x v l.first l.last)))) (l.at + length (entries_text false names (singles_from x v l.tick (l.last + 1 - l.tick))))
