-- `column_clashes` meets its contract. The invariant: no row before `row` has a tick of word q with both marks. Assumes nothing.
use native.Mathlib.Omega.{arith}
use mathlib.Core.Path.{refl, ap₂, ◌∙◌}
use lib.Bits.{bit_and}
use Rattle.table_facts.proofs.Clashing.{clash_found, no_clash}
use Rattle.table_facts.proofs.column_clashes.Goals as goal

pub returns-then-yes-no-ne0 : goal.returns-then-yes-no-ne0
returns-then-yes-no-ne0 c =
    let e = ap₂ bit_and c.word_at-yes.ensures c.word_at-no.ensures in
    (λ z. clash_found _ _ _ _ c.requires.0 (omega arith) (λ n. c.if-yes-no-ne0.true (e ∙ n)), λ h. refl)

pub returns : goal.returns
returns c =
    (λ e. cc, λ h. absurd (no_clash _ _ _ _ c.requires.1 (λ r l. c.loop-row.invariant r (omega arith)) h))
