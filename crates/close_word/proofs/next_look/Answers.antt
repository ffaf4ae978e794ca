-- `next_look` meets its contract. Assumes nothing.
use native.Mathlib.Omega.{arith}
use Rattle.close_word.proofs.Working.{lowest_from}
use Rattle.close_word.proofs.next_look.Goals as goal

pub overflow_cast-k : goal.overflow_cast-k
overflow_cast-k c = omega (arith, (lowest_from _ _ c.ranges.word.fits c.if-rest-eq0.false).0, c.requires.1)

pub overflow_add-k : goal.overflow_add-k
overflow_add-k c = omega (arith, (lowest_from _ _ c.ranges.word.fits c.if-rest-eq0.false).0, c.requires.1)

pub overflow_add-w : goal.overflow_add-w
overflow_add-w c = omega (arith, (lowest_from _ _ c.ranges.word.fits c.if-rest-eq0.false).0, c.requires.1)

pub offset_bounds-rows-start : goal.offset_bounds-rows-start
offset_bounds-rows-start c = omega (arith, (lowest_from _ _ c.ranges.word.fits c.if-rest-eq0.false).0, c.requires.1)

pub bounds-rows-start : goal.bounds-rows-start
bounds-rows-start c =
    let asked = c.requires in
    let fits = c.ranges in
    omega (arith, (lowest_from _ _ fits.word.fits c.if-rest-eq0.false).0, asked.1)

pub returns : goal.returns
returns c =
    let fits = c.ranges in
    let if1 = c.if-rest-eq0 in
    λ l. ((lowest_from _ _ fits.word.fits if1.false).1, omega arith)
