-- `count_run` meets its contract. The invariant: the run is counted in the records before i, and those from i on are as they were. Assumes nothing.
use mathlib.Core.Path.{◌≡◌}
use Prim.Native.Nat.{ℕ, ◌≤◌, ◌<◌}
use lib.ListN.{length}
use Rattle.figure_run.specs.RecordWords.{record_in}
use Rattle.figure_run.specs.RunCounts.{CountsRun}
use Rattle.figure_run.proofs.counts.count_run.Given as goal

abbrev pub invariant-loop-i : goal.invariant-loop-i
invariant-loop-i l =
    (length l.words ≡ length l.initial.words) × ((j : ℕ) → j < l.i → CountsRun l.n l.window l.table (record_in l.initial.words j) (record_in l.words j)) × ((j : ℕ) → l.i ≤ j → record_in l.words j ≡ record_in l.initial.words j)
