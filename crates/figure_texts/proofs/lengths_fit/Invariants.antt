-- `lengths_fit` meets its contract. The invariant: what is left and the lengths before `length-index` are the slice's length.
-- Assumes nothing.
use mathlib.Core.Path.{◌≡◌}
use Prim.Native.Nat.{◌+◌, ◌≤◌}
use lib.ListN.{length}
use Rattle.spec_limits.specs.Limits.{most_runs}
use Rattle.figure_texts.specs.Notes.{sum_to}
use Rattle.figure_texts.proofs.lengths_fit.Given as goal

abbrev pub invariant-loop-length : goal.invariant-loop-length
invariant-loop-length l = (length l.lengths ≤ most_runs) × (l.left + sum_to l.lengths l.length-index ≡ l.m)
