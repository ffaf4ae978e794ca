-- `run_texts` meets its contract. The invariant: the first i texts are run and counted. Assumes nothing.
use mathlib.Core.Path.{◌≡◌}
use lib.ListN.{length}
use Rattle.figure_texts.specs.Notes.{sum_to}
use Rattle.figure_runs.proofs.TextRuns.{Reached}
use Rattle.figure_runs.proofs.runs.run_texts.Given as goal

abbrev pub invariant-loop-i : goal.invariant-loop-i
invariant-loop-i l =
    (length l.todo ≡ length l.initial.todo) × (length l.table ≡ length l.initial.table) × (length l.words ≡ length l.initial.words) × (l.at ≡ sum_to l.lengths l.i) × (l.start ≡ sum_to l.kept l.i) × Reached l.s l.texts l.lengths l.i l.table l.words
