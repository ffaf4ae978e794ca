-- `note_entries` meets its contract. The invariant: the loop over the entries stands at `at`, the array's first numbers are those read, and each had 22 bytes.
-- Assumes nothing.
use mathlib.Core.Path.{◌≡◌}
use Prim.Native.Nat.{◌*◌, ◌-◌, ◌≤◌}
use lib.ListN.{length}
use Rattle.read_index.specs.Index.{names_in}
use Rattle.read_reading.specs.OneEntry.{entry}
use Rattle.read_readings.specs.SpanNumbers.{spans_in}
use Rattle.read_readings.proofs.Turns.{Passed}
use Rattle.read_readings.proofs.whole.note_entries.Given as goal

abbrev pub invariant-loop-at : goal.invariant-loop-at
invariant-loop-at l =
    (length l.noted ≡ length l.initial.noted) × (22 * l.count ≤ l.at) × Passed (entry l.spans (names_in l.s l.names) l.window l.r) l.r (spans_in l.noted l.count) l.at

abbrev pub decreases-loop-at : goal.decreases-loop-at
decreases-loop-at l = length l.r - l.at
