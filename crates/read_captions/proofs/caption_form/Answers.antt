-- `caption_form` meets its contract: each early answer says which part of the form is missing. Assumes nothing.
use native.Mathlib.Omega.{arith}
use mathlib.Core.Path.{refl, sym, ◌∙◌}
use mathlib.Core.Bool.{true≢false}
use Prim.Native.Nat.{◌+◌}
use Rattle.read_bytes.proofs.Places.{peek_in}
use Rattle.read_captions.proofs.CaptionForms.{equals_inside, caption_long, form_is, form_not}
use Rattle.read_captions.proofs.caption_form.Goals as goal

pub returns-then-c-a : goal.returns-then-c-a
returns-then-c-a c = form_not _ _ c.name_end-a.ensures refl (λ h. omega (arith, equals_inside h, c.if-c-a.true))

pub returns-then-c-a-ne61 : goal.returns-then-c-a-ne61
returns-then-c-a-ne61 c = form_not _ _ c.name_end-a.ensures refl (λ h. c.if-c-a-ne61.true (peek_in _ _ (omega arith) ∙ h.equals))

pub returns-then-e-v : goal.returns-then-e-v
returns-then-e-v c = form_not _ _ c.name_end-a.ensures c.caption_end-e.ensures (λ h. omega (arith, h.some, c.if-e-v.true))

pub returns-then-v-e : goal.returns-then-v-e
returns-then-v-e c = form_not _ _ c.name_end-a.ensures c.caption_end-e.ensures (λ h. omega (arith, h.short, c.if-v-e.true))

pub returns-then-lf_at : goal.returns-then-lf_at
returns-then-lf_at c =
    form_is _ _ c.name_end-a.ensures c.caption_end-e.ensures (record {
      equals = sym (peek_in _ _ (omega arith)) ∙ c.if-c-a-ne61.false;
      some = omega (arith, caption_long c.args.c.now (c.name_end-a.result + 1), c.caption_end-e.ensures, c.if-e-v.false);
      short = omega (arith, c.if-v-e.false);
      ended = sym c.lf_at.ensures ∙ c.if-lf_at.true;
    })

pub returns-else-lf_at : goal.returns-else-lf_at
returns-else-lf_at c = form_not _ _ c.name_end-a.ensures c.caption_end-e.ensures (λ h. true≢false (sym h.ended ∙ sym c.lf_at.ensures ∙ c.if-lf_at.false))
