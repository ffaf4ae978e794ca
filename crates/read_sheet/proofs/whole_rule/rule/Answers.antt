-- `rule` meets its contract. Assumes nothing.
use borrow.Author.Rules.{rules}
use Rattle.read_parts.specs.FormulaText.{rule}
use Rattle.read_parts.proofs.Levels.{hand_on, whole, not_whole}
use Rattle.read_sheet.proofs.whole_rule.rule.Goals as goal

pub returns-in_err-part : goal.returns-in_err-part
unfolding rule
returns-in_err-part c =
    hand_on _ c.in_err-part.ensures (search rules)

pub returns-then-part-s : goal.returns-then-part-s
unfolding rule
returns-then-part-s c =
    whole _ c.in_ok-part.ensures c.if-part-s.true

pub returns-else-part-s : goal.returns-else-part-s
unfolding rule
returns-else-part-s c =
    not_whole _ c.in_ok-part.ensures c.if-part-s.false
