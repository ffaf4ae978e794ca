-- `run_all` meets its contract. The invariant: the last sheet stands no later than the place, and the words in use are words of the table. Assumes nothing.
use Rattle.std.proofs.Common.{◌≡◌, ◌-◌, ◌≤◌, length}
use Rattle.spec_limits.specs.Limits.{most_listed_words}
use Rattle.run_operations.proofs.run_all.Given as goal

abbrev pub invariant-loop-at : goal.invariant-loop-at
invariant-loop-at g l = (l.above ≤ l.at) × (l.at ≤ length l.cases) × (l.used ≤ most_listed_words) × (most_listed_words ≡ length l.words)

abbrev pub decreases-loop-at : goal.decreases-loop-at
decreases-loop-at g l = length l.cases - l.at
