-- `lengths_fit` meets its contract. The invariant: what is left and the lengths before `length-index` are the slice's length.
-- Assumes nothing.
use native.Mathlib.Omega.{arith}
use Rattle.figure_texts.proofs.Sums.{sum_more, too_many, too_long, all_taken}
use Rattle.figure_texts.proofs.lengths_fit.Goals as goal

pub returns-then-lengths-gt-RUNS : goal.returns-then-lengths-gt-RUNS
returns-then-lengths-gt-RUNS c = too_many c.if-lengths-gt-RUNS.true

pub loop-length-init : goal.loop-length-init
loop-length-init c = (omega arith, omega arith)

pub returns-then-left-length : goal.returns-then-left-length
returns-then-left-length c =
    too_long c.args.lengths.now c.loop-length.left c.loop-length.length-index c.loop-length.invariant.1 (omega arith) (omega arith)

pub loop-length-preserved : goal.loop-length-preserved
loop-length-preserved c =
    (omega arith, omega (arith, sum_more c.args.lengths.now c.loop-length.length-index (omega arith)))

pub returns : goal.returns
returns c = all_taken _ _ c.loop-length.length-index c.loop-length.invariant.1 (omega arith) (omega arith)
