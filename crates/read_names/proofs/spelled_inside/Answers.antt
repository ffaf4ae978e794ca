-- `spelled_inside` meets its contract. Assumes nothing.
use mathlib.Core.Path.{sym, ◌∙◌}
use Rattle.read_names.proofs.Spelling.{is_not, is_by}
use Rattle.read_names.proofs.spelled_inside.Goals as goal

pub returns-then-stands_at : goal.returns-then-stands_at
returns-then-stands_at c = c.spelling_over.ensures ∙ is_by _ _ _ (sym c.stands_at.ensures ∙ c.if-stands_at.true)

pub returns-else-stands_at : goal.returns-else-stands_at
returns-else-stands_at c = is_not _ _ _ (sym c.stands_at.ensures ∙ c.if-stands_at.false)
