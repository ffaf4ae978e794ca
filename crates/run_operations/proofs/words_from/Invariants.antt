-- `words_from` meets its contract. The invariant: the words stay as many. Assumes nothing.
use Rattle.std.proofs.Common.{◌≡◌, ◌-◌, length}
use Rattle.spec_limits.specs.Limits.{most_listed_words}
use Rattle.run_operations.proofs.words_from.Given as goal

abbrev pub invariant-loop-p : goal.invariant-loop-p
invariant-loop-p l = most_listed_words ≡ length l.words

abbrev pub decreases-loop-p : goal.decreases-loop-p
decreases-loop-p l = length l.cases - l.p
