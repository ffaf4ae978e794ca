-- `moved_length` meets its contract. The invariant: what the numbers before i are joined to is added up, unless the limit is passed. Assumes nothing.
use native.Mathlib.Omega.{arith}
use Rattle.op_moves.proofs.RunTexts.{run_writable}
use Rattle.op_moves.proofs.Measured.{stops_adding, runs_start, run_more, run_last}
use Rattle.op_moves.proofs.lengths.moved_length.Goals as goal

pub loop-i-init : goal.loop-i-init
loop-i-init c = runs_start _ _ c.args.noted.now

pub returns-then-at-gt-BYTES : goal.returns-then-at-gt-BYTES
returns-then-at-gt-BYTES c = stops_adding _ _ c.loop-i.invariant c.if-at-gt-BYTES.true

pub run_from-row-requires : goal.run_from-row-requires
run_from-row-requires c = c.loop-i-test.true

pub run_length-at-requires : goal.run_length-at-requires
run_length-at-requires c =
    (run_writable c.requires c.loop-i-test.true c.run_from-row.ensures, c.if-at-gt-BYTES.false)

pub loop-i-smaller : goal.loop-i-smaller
loop-i-smaller c = omega (arith, c.run_from-row.ensures.ahead, c.run_from-row.ensures.inside)

pub loop-i-preserved : goal.loop-i-preserved
loop-i-preserved c =
    run_more _ _ _ _ _ c.loop-i.invariant c.run_from-row.ensures c.run_length-at.ensures

pub returns : goal.returns
returns c =
    run_last _ _ c.args.noted.now c.loop-i.i _ c.loop-i.invariant (omega arith)
