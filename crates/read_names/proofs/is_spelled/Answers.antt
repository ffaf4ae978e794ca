-- `is_spelled` meets its contract. Assumes nothing.
use mathlib.Core.Path.{sym, ◌∙◌}
use Rattle.read_names.proofs.Spelling.{is_not, is_by}
use Rattle.read_names.proofs.is_spelled.Goals as goal

pub returns-then-starts_at : goal.returns-then-starts_at
returns-then-starts_at c = c.spelling_over.ensures ∙ is_by _ _ _ (sym c.starts_at.ensures ∙ c.if-starts_at.true)

pub returns-else-starts_at : goal.returns-else-starts_at
returns-else-starts_at c = is_not _ _ _ (sym c.starts_at.ensures ∙ c.if-starts_at.false)
