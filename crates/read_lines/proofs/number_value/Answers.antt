-- `number_value` meets its contract. Assumes nothing.
use native.Mathlib.Omega.{arith}
use mathlib.Core.Path.{sym, ◌∙◌}
use Rattle.read_lines.proofs.ValueFirst.{lf_inside, value_missing, value_ended, value_open}
use Rattle.read_lines.proofs.number_value.Goals as goal

pub returns-in_default : goal.returns-in_default
returns-in_default g c = value_missing _ _ _ _ (sym c.number_at.ensures ∙ c.in_default.is)

pub overflow_add-next : goal.overflow_add-next
overflow_add-next g c = omega (arith, lf_inside _ _ (sym c.lf_at.ensures ∙ c.if-lf_at.true))

pub returns-then-lf_at : goal.returns-then-lf_at
returns-then-lf_at g c =
    value_ended _ _ _ _ (sym c.number_at.ensures ∙ c.in-Some.is) (sym c.lf_at.ensures ∙ c.if-lf_at.true)

pub returns-else-lf_at : goal.returns-else-lf_at
returns-else-lf_at g c =
    value_open _ _ _ _ (sym c.number_at.ensures ∙ c.in-Some.is) (sym c.lf_at.ensures ∙ c.if-lf_at.false)
