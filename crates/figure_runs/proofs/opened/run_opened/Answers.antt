-- `run_opened` meets its contract. Assumes nothing.
use native.Mathlib.Omega.{arith}
use Rattle.op_add.proofs.WorkLists.{short_enough, long_enough}
use Rattle.figure_runs.proofs.opened.run_opened.Goals as goal

pub check_and_run-requires : goal.check_and_run-requires
check_and_run-requires c = record { runnable = record { opened = c.requires.opened_for.0; long = c.requires.opened_for.1; list = short_enough _ (omega (arith, c.if-table-le-SMALL.true)) }; lengths_fit = c.requires.lengths_fit }

pub check_and_run-requires-2 : goal.check_and_run-requires-2
check_and_run-requires-2 c = record { runnable = record { opened = c.requires.opened_for.0; long = c.requires.opened_for.1; list = long_enough _ }; lengths_fit = c.requires.lengths_fit }
