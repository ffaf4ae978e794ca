-- `is_reserved` meets its contract. Assumes nothing.
use mathlib.Core.Path.{sym, ◌∙◌}
use Rattle.read_names.proofs.Names.{reserved_since, reserved_until, reserved_five}
use Rattle.read_names.proofs.is_reserved.Goals as goal

pub returns-then-is_since : goal.returns-then-is_since
returns-then-is_since c = reserved_since _ _ (sym c.is_since.ensures ∙ c.if-is_since.true)

pub returns-then-e-at-eq5 : goal.returns-then-e-at-eq5
returns-then-e-at-eq5 c = c.is_until.ensures ∙ reserved_until _ _ (sym c.is_since.ensures ∙ c.if-is_since.false)

pub returns : goal.returns
returns c = reserved_five c.requires c.if-e-at-eq5.false
