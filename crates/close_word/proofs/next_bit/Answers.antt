-- `next_bit` meets its contract. Assumes nothing.
use native.Mathlib.Omega.{arith}
use lib.Count.{trailing_le}
use Rattle.close_word.proofs.Working.{lowest, lowest_from}
use Rattle.close_word.proofs.next_bit.Goals as goal

pub overflow_cast-result : goal.overflow_cast-result
overflow_cast-result c = omega (arith, trailing_le 64 c.args.word)

pub returns-then-rest-eq0 : goal.returns-then-rest-eq0
returns-then-rest-eq0 c = lowest c.args.word (λ e. omega (arith, e)) c.ranges.word.fits

pub overflow_cast-result-2 : goal.overflow_cast-result-2
overflow_cast-result-2 c = omega (arith, (lowest_from _ _ c.ranges.word.fits c.if-rest-eq0.false).0)

pub overflow_add-result : goal.overflow_add-result
overflow_add-result c = omega (arith, (lowest_from _ _ c.ranges.word.fits c.if-rest-eq0.false).0)

pub returns : goal.returns
returns c = lowest_from _ _ c.ranges.word.fits c.if-rest-eq0.false
