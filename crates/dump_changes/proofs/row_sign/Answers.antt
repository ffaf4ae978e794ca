-- `row_sign` meets its contract: the first mark that stands tells the sign. Assumes nothing.
use mathlib.Core.Path.{refl, ◌∙◌}
use mathlib.Core.Bool.{true, false}
use Rattle.dump_changes.proofs.Signs.{mark_is, signed}
use Rattle.dump_changes.proofs.row_sign.Goals as goal

pub returns-then-has_mark : goal.returns-then-has_mark
returns-then-has_mark c = signed _ _ _ _ true _ (mark_is _ _ _ _ _ c.requires.0 _ c.has_mark.ensures ∙ c.if-has_mark.true) refl

pub returns-then-has_mark-2 : goal.returns-then-has_mark-2
returns-then-has_mark-2 c =
    signed _ _ _ _ false true (mark_is _ _ _ _ _ c.requires.0 _ c.has_mark.ensures ∙ c.if-has_mark.false)
    (mark_is _ _ _ _ _ c.requires.0 _ c.has_mark-2.ensures ∙ c.if-has_mark-2.true)

pub returns : goal.returns
returns c =
    signed _ _ _ _ false false (mark_is _ _ _ _ _ c.requires.0 _ c.has_mark.ensures ∙ c.if-has_mark.false)
    (mark_is _ _ _ _ _ c.requires.0 _ c.has_mark-2.ensures ∙ c.if-has_mark-2.false)
