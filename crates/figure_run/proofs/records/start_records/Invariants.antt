-- `start_records` meets its contract. The invariant: the records before i are those of their signals before the first run. Assumes nothing.
use mathlib.Core.Path.{◌≡◌}
use Prim.Native.Nat.{ℕ, ◌<◌}
use lib.ListN.{length, get_or}
use Rattle.figure_run.specs.RecordWords.{record_in, no_runs}
use Rattle.figure_run.proofs.records.start_records.Given as goal

abbrev pub invariant-loop-i : goal.invariant-loop-i
invariant-loop-i l =
    (length l.words ≡ length l.initial.words) × ((j : ℕ) → j < l.i → record_in l.words j ≡ no_runs (get_or l.signals j 0))
