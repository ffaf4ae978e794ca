-- `with_run` meets its contract: a run that clashes is counted here. Assumes nothing.
use native.Mathlib.Omega.{arith}
use Rattle.figure_run.proofs.Runs.{clashing_run}
use Rattle.figure_run.proofs.counts.with_run.Goals as goal

pub returns-then-clash : goal.returns-then-clash
returns-then-clash c = clashing_run (c.requires.clashes.0 c.if-clash.true) (omega arith) (omega arith)
