-- `write_gates` meets its contract: the loop has written the first i joins, and `last` is the last of them. Assumes nothing.
use mathlib.Core.Path.{◌≡◌, refl}
use native.Mathlib.Omega.{arith}
use Rattle.lower_rows.specs.RowWrites.{gates, last_gate}
use Rattle.lower_rows.proofs.Runs.{run_step, run_none, run_done, run_full, gates_start, gates_next, last_next, gate_row}
use Rattle.lower_rows.proofs.interval.write_gates.Goals as goal

pub returns-then-out-used : goal.returns-then-out-used
returns-then-out-used c = run_full (gates _ _ _) _ (gates_start _ _ _) (gates_next _ _ _) _ c.args.n c.args.used c.args.out.now (omega arith)

pub loop-i-init : goal.loop-i-init
unfolding last_gate
loop-i-init c = (omega arith, refl, run_none (gates _ _ _) _ (gates_start _ _ _) (gates_next _ _ _) _ _)

pub loop-i-preserved : goal.loop-i-preserved
loop-i-preserved c =
    let a = c.args in
    let l = c.loop-i in (
      omega arith,
      last_next a.first a.used l.i,
      rw (c.gate_code.ensures, l.invariant.1, gate_row a.gate (last_gate a.first a.used l.i) a.first l.i, l.invariant.2)
          (run_step (gates _ _ _) _ (gates_start _ _ _) (gates_next _ _ _) _ _ _),
    )

pub returns : goal.returns
returns c =
    let l = c.loop-i in
    let e : l.i ≡ c.args.n = omega arith in
    rw (l.invariant.1, e)
    (run_done (gates _ _ _) _ (gates_start _ _ _) (gates_next _ _ _) _ c.args.n c.args.used c.args.out.now _ (omega arith) (rw e at l.invariant.2))
