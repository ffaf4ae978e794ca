-- `name_line` meets its contract. Assumes nothing.
use borrow.Author.Rules.{rules}
use native.Mathlib.Omega.{arith}
use mathlib.Core.Path.{sym, ◌∙◌}
use Rattle.read_lines.specs.Lines.{name_line}
use Rattle.read_bytes.proofs.Answers.{hand_on}
use Rattle.read_lines.proofs.ValueFirst.{lf_inside, keyed_is, keyed_not, name_first, other_no_name, open_no_name}
use Rattle.read_lines.proofs.name_line.Goals as goal

pub returns-then-not-keyed : goal.returns-then-not-keyed
unfolding name_line
returns-then-not-keyed g c = hand_on _ (keyed_not _ _ _ _ (sym c.keyed.ensures ∙ c.if-not-keyed.true))

pub name_at-requires : goal.name_at-requires
name_at-requires g c = (keyed_is _ _ _ (sym c.keyed.ensures ∙ c.if-not-keyed.false)).0

pub no_name-requires : goal.no_name-requires
no_name-requires g c = (search rules, other_no_name _ _ (sym c.name_at.ensures ∙ c.in_default.is))

pub overflow_add-next : goal.overflow_add-next
overflow_add-next g c = omega (arith, lf_inside _ _ (sym c.lf_at.ensures ∙ c.if-lf_at.true))

pub no_name-requires-else-lf_at : goal.no_name-requires-else-lf_at
no_name-requires-else-lf_at g c =
    (search rules, open_no_name _ _ (sym c.name_at.ensures ∙ c.in-Some.is) (sym c.lf_at.ensures ∙ c.if-lf_at.false))

pub returns-then-lf_at : goal.returns-then-lf_at
returns-then-lf_at g c =
    name_first _ _ _ _ (sym c.keyed.ensures ∙ c.if-not-keyed.false) (sym c.lf_at.ensures ∙ c.if-lf_at.true) _ (sym c.name_at.ensures ∙ c.in-Some.is)
