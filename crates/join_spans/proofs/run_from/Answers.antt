-- `run_from` meets its contract. The invariant: the numbers from i to `next` are joined to the run. Assumes nothing.
use native.Mathlib.Omega.{arith}
use mathlib.Core.Path.{◌≡◌}
use lib.ListN.{length}
use Rattle.join_spans.proofs.RunSpans.{any_first, run_starts, run_grows, run_stops, run_ends}
use Rattle.join_spans.proofs.run_from.Goals as goal

pub loop-next-init : goal.loop-next-init
loop-next-init c = run_starts _ _ (omega arith)

pub meets_run-requires : goal.meets_run-requires
meets_run-requires c = c.loop-next.invariant.tick

pub returns-then-not-meets_run : goal.returns-then-not-meets_run
returns-then-not-meets_run c =
    run_stops _ _ c.loop-next.invariant c.loop-next-test.true (any_first _ _ _ _ c.meets_run.ensures (c.if-not-meets_run.true))

pub loop-next-preserved : goal.loop-next-preserved
loop-next-preserved c =
    run_grows _ _ c.loop-next.invariant c.loop-next-test.true (any_first _ _ _ _ c.meets_run.ensures (c.if-not-meets_run.false)) c.larger-last.ensures

pub returns : goal.returns
returns c =
    let all : c.loop-next.next ≡ length c.args.noted.now = omega arith in
    rw (← all) (run_ends _ _ c.loop-next.invariant (omega arith))
