-- `run_all` meets its contract. The invariant: the last sheet and the last captions stand no later than the place. Assumes nothing.
use Rattle.std.proofs.Common.{length, ◌-◌, ◌≤◌}
use Rattle.run_texts.proofs.run_all.Given as goal

abbrev pub invariant-loop-at : goal.invariant-loop-at
invariant-loop-at g l = (l.above ≤ l.at) × (l.house ≤ l.at) × (l.at ≤ length l.cases)

abbrev pub decreases-loop-at : goal.decreases-loop-at
decreases-loop-at g l = length l.cases - l.at
