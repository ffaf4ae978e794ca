-- `var_form` meets its contract. Assumes nothing.
use native.Mathlib.Omega.{arith}
use mathlib.Core.Path.{refl, sym, ◌∙◌}
use mathlib.Core.Bool.{true≢false}
use Rattle.read_lines.proofs.ValueFirst.{keyed_is, keyed_by}
use Rattle.dump_lines.proofs.VarForms.{form_is, form_not}
use Rattle.dump_lines.proofs.head.var_form.Goals as goal

pub returns-then-not-keyed : goal.returns-then-not-keyed
returns-then-not-keyed c = form_not _ _ _ _ refl (λ h. true≢false (sym h.key ∙ sym c.keyed.ensures ∙ c.if-not-keyed.true))

pub returns-then-d-v : goal.returns-then-d-v
returns-then-d-v c = form_not _ _ _ _ refl (λ h. omega (arith, h.long))

pub returns-then-d-p : goal.returns-then-d-p
returns-then-d-p c = form_not _ _ _ _ refl (λ h. c.if-d-p.true h.id)

pub returns-then-d-p-ne32 : goal.returns-then-d-p-ne32
returns-then-d-p-ne32 c = form_not _ _ _ _ refl (λ h. c.if-d-p-ne32.true h.space)

pub returns-then-d-e : goal.returns-then-d-e
returns-then-d-e c = form_not _ _ _ _ c.line_end-e.ensures (λ h. omega (arith, h.inside))

pub returns-then-e-v : goal.returns-then-e-v
returns-then-e-v c = form_not _ _ _ _ c.line_end-e.ensures (λ h. omega (arith, h.room))

pub returns-then-keyed : goal.returns-then-keyed
returns-then-keyed c =
    form_is _ _ _ _ c.line_end-e.ensures
    (record {
      key = sym c.keyed.ensures ∙ c.if-not-keyed.false;
      long = omega arith;
      id = c.if-d-p.false;
      space = c.if-d-p-ne32.false;
      inside = omega arith;
      room = omega arith;
      ended = (keyed_is _ _ _ (sym c.keyed-2.ensures ∙ c.if-keyed.true)).1;
    })

pub returns-else-keyed : goal.returns-else-keyed
returns-else-keyed c =
    form_not _ _ _ _ c.line_end-e.ensures (λ h. true≢false (sym h.ended ∙ keyed_by _ _ _ (omega arith) ∙ sym c.keyed-2.ensures ∙ c.if-keyed.false))
