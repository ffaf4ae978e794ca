-- `one_of_texts` meets its contract. The invariant: none of the texts so far stands there, so it is one of the others or none. Assumes nothing.
use mathlib.Core.Path.{refl, sym, ◌∙◌}
use Rattle.dump_lines.proofs.HeadTexts.{text_here, text_later, text_left, texts_done}
use Rattle.dump_lines.proofs.head.one_of_texts.Goals as goal

pub loop-w-init : goal.loop-w-init
loop-w-init c = refl

pub returns-then-keyed : goal.returns-then-keyed
returns-then-keyed c =
    text_left _ _ _ _ _ _ c.loop-w-test.true _
    (text_here _ _ _ _ _ c.keyed.ensures c.if-keyed.true refl) ∙ c.loop-w.invariant

pub loop-w-preserved : goal.loop-w-preserved
loop-w-preserved c =
    text_left _ _ _ _ _ _ c.loop-w-test.true _
    (text_later _ _ _ _ _ c.keyed.ensures c.if-keyed.false refl) ∙ c.loop-w.invariant

pub returns : goal.returns
returns c = texts_done _ _ _ _ _ _ c.loop-w-test.false ∙ c.loop-w.invariant
