-- `write_looks` meets its contract: the loop has written the first i looks. Assumes nothing.
use mathlib.Core.Path.{◌≡◌}
use native.Mathlib.Omega.{arith}
use Rattle.lower_rows.specs.RowWrites.{looks}
use Rattle.lower_rows.proofs.Runs.{run_step, run_none, run_done, run_full, looks_start, looks_next}
use Rattle.lower_rows.proofs.interval.write_looks.Goals as goal

pub returns-then-out-used : goal.returns-then-out-used
returns-then-out-used c = run_full (looks _ _) _ (looks_start _ _) (looks_next _ _) _ c.args.n c.args.used c.args.out.now (omega arith)

pub loop-i-init : goal.loop-i-init
loop-i-init c = run_none (looks _ _) _ (looks_start _ _) (looks_next _ _) _ _

pub loop-i-preserved : goal.loop-i-preserved
loop-i-preserved c =
    rw (c.look_code.ensures, c.loop-i.invariant) (run_step (looks _ _) _ (looks_start _ _) (looks_next _ _) _ _ _)

pub returns : goal.returns
returns c =
    let l = c.loop-i in
    let e : l.i ≡ c.args.n = omega arith in
    run_done (looks _ _) _ (looks_start _ _) (looks_next _ _) _ c.args.n c.args.used c.args.out.now _ (omega arith) (rw e at l.invariant)
