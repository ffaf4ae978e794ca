-- `write_moved` meets its contract. The invariant: what the numbers before i are joined to is written. Assumes nothing.
use borrow.Author.Rules.{rules}
use native.Mathlib.Omega.{arith}
use Rattle.write_bytes.proofs.Writing.{all_written, counted_start}
use Rattle.op_moves.proofs.Progress.{starts, counts, goes_on, ends}
use Rattle.op_moves.proofs.RunTexts.{moved_runs, next_run, no_run, run_writable}
use Rattle.op_moves.proofs.texts.write_moved.Goals as goal

pub loop-i-init : goal.loop-i-init
loop-i-init c =
    starts (moved_runs _ _ c.args.noted.now)

pub run_from-row-requires : goal.run_from-row-requires
run_from-row-requires c = c.loop-i-test.true

pub write_run-requires : goal.write_run-requires
write_run-requires c =
    (run_writable c.requires.0 c.loop-i-test.true c.run_from-row.ensures, counts c.loop-i.invariant (counted_start c.requires.1 c.new-w.ensures.start) _ (next_run _ _ c.run_from-row.ensures))

pub loop-i-smaller : goal.loop-i-smaller
loop-i-smaller c =
    omega (arith, c.run_from-row.ensures.ahead, c.run_from-row.ensures.inside)

pub loop-i-preserved : goal.loop-i-preserved
loop-i-preserved c =
    goes_on c.loop-i.invariant (next_run _ _ c.run_from-row.ensures) c.write_run.ensures

pub returns : goal.returns
returns c =
    all_written (ends c.loop-i.invariant (no_run _ _ c.args.noted.now c.loop-i.i (omega arith))) c.new-w.ensures.lent c.new-w.ensures.start (search rules) c.length.ensures
