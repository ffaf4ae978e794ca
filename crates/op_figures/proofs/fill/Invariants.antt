-- `fill` meets its contract. The invariant: the records before `i` are filled from their words, the others are what they were. Assumes nothing.
use mathlib.Core.Path.{◌≡◌}
use Rattle.figure_run.specs.RecordWords.{record_in}
use Rattle.op_figures.proofs.Filling.{filled}
use Rattle.op_figures.proofs.fill.Given as goal

abbrev pub invariant-loop-i : goal.invariant-loop-i
invariant-loop-i l = l.records ≡ filled (record_in l.words) l.i l.initial.records
