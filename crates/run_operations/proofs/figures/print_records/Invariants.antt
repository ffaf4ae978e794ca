-- `print_records` meets its contract. The invariant: no more records are printed than a sheet can have signals. Assumes nothing.
use Rattle.std.proofs.Common.{◌-◌, ◌≤◌}
use Rattle.spec_limits.specs.Limits.{most_signals}
use Rattle.run_operations.proofs.figures.print_records.Given as goal

abbrev pub invariant-loop-i : goal.invariant-loop-i
invariant-loop-i g l = l.i ≤ most_signals

abbrev pub decreases-loop-i : goal.decreases-loop-i
decreases-loop-i g l = most_signals - l.i
