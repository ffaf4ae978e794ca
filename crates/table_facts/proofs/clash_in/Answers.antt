-- `clash_in` meets its contract. The invariant: no word of ticks before q has a clash. Assumes nothing.
use native.Mathlib.Omega.{arith}
use borrow.Author.Count.{below_more}
use Rattle.table_facts.proofs.Clashing.{clash_in_word}
use Rattle.table_facts.proofs.clash_in.Goals as goal

pub loop-q-preserved : goal.loop-q-preserved
loop-q-preserved c =
    below_more _ _ c.loop-q.invariant (λ h. let e = c.column_clashes.ensures.1 h in cc)

pub returns : goal.returns
returns c =
    (λ e. cc, λ h. absurd (clash_in_word _ _ (λ q l. c.loop-q.invariant q (omega arith)) h))
