-- `value_at` meets its contract. Assumes nothing.
use mathlib.Core.Path.{sym, ◌∙◌}
use mathlib.Core.Bool.{false≢true}
use Rattle.spec_tilco.specs.Table.Asked.{clashes, holds, fails, neither}
use Rattle.table_marks.proofs.value_at.Goals as goal

pub returns-then-clash : goal.returns-then-clash
returns-then-clash c = clashes (c.requires.2.0 c.if-clash.true)

pub returns-then-holds : goal.returns-then-holds
returns-then-holds c =
    holds (λ x. false≢true (sym c.if-clash.false ∙ c.requires.2.1 x)) (c.has_mark-holds.ensures.0 c.if-holds.true)

pub returns-then-fails : goal.returns-then-fails
returns-then-fails c =
    fails (λ x. false≢true (sym c.if-clash.false ∙ c.requires.2.1 x)) (c.has_mark-fails.ensures.0 c.if-fails.true)

pub returns : goal.returns
returns c =
    neither (λ x. false≢true (sym c.if-clash.false ∙ c.requires.2.1 x)) (λ i. false≢true (sym c.if-holds.false ∙ c.has_mark-holds.ensures.1 i)) (λ i. false≢true (sym c.if-fails.false ∙ c.has_mark-fails.ensures.1 i))
