-- Lowering keeps the meaning: a formula lowered in a sense is worth the formula's value in that sense.
-- Assumes nothing.
use mathlib.Core.Path.{◌≡◌, refl, sym, ◌∙◌, ap, ap₂, fun_ext}
use mathlib.Core.Bool.{Bool, true, false, not, ◌||◌, not-not}
use Prim.Native.Nat.{ℕ, zero, suc, ◌+◌}
use lib.IntN.{ℤ}
use Rattle.spec_tilco.specs.Formula.{Op, And, Or, Implies, Iff, Formula}
use Rattle.spec_tilco.specs.Meaning.{History, at_offset, gate_of, over_offsets, op_of, value}
use Rattle.spec_tilco.specs.Lowering.{BTL, turn, paired, lowered, worth}

turn_not : (s x : Bool) → turn (not s) x ≡ turn s (not x)
turn_not true x = refl
turn_not false x = sym (not-not x)

-- a gate trades places in the false sense
turn_gate : (u s x y : Bool) → gate_of (turn u s) (turn s x) (turn s y) ≡ turn s (gate_of u x y)
turn_gate true true x y = refl
turn_gate false true x y = refl
turn_gate true false true y = refl
turn_gate true false false y = refl
turn_gate false false true y = refl
turn_gate false false false y = refl

turn_implies : (s x y : Bool) → gate_of (not s) (turn (not s) x) (turn s y) ≡ turn s (not x || y)
turn_implies s x y = ap (λ (z : Bool). gate_of (not s) z (turn s y)) (turn_not s x) ∙ turn_gate false s (not x) y

turn_offsets : (u s : Bool) (p : ℕ → Bool) (lo n : ℕ) → over_offsets (turn u s) (λ k. turn s (p k)) lo n ≡ turn s (over_offsets u p lo n)
turn_offsets u s p lo zero = refl
turn_offsets u s p lo (suc n) = ap (λ (z : Bool). gate_of (turn u s) z (turn s (p (lo + suc n)))) (turn_offsets u s p lo n) ∙ turn_gate u s (over_offsets u p lo n) (p (lo + suc n))

paired_worth : (h : History) (o : Op) (s : Bool) (f g : Bool → BTL) (t : ℤ) (x y : Bool) → ((z : Bool) → worth h (f z) t ≡ turn z x) → ((z : Bool) → worth h (g z) t ≡ turn z y)
    → worth h (paired o s f g) t ≡ turn s (op_of o x y)
paired_worth h And s f g t x y p q = ap₂ (gate_of s) (p s) (q s) ∙ turn_gate true s x y
paired_worth h Or s f g t x y p q = ap₂ (gate_of (not s)) (p s) (q s) ∙ turn_gate false s x y
paired_worth h Implies s f g t x y p q = ap₂ (gate_of (not s)) (p (not s)) (q s) ∙ turn_implies s x y
paired_worth h Iff s f g t x y p q =
    ap₂ (gate_of s) (ap₂ (gate_of (not s)) (p (not s)) (q s) ∙ turn_implies s x y) (ap₂ (gate_of (not s)) (q (not s)) (p s) ∙ turn_implies s y x)
    ∙ turn_gate true s (not x || y) (not y || x)

pub lowering_keeps : (h : History) (s : Bool) (f : Formula) (t : ℤ) → worth h (lowered s f) t ≡ turn s (value h f t)
lowering_keeps h s (Formula.sig x) t = refl
lowering_keeps h s (Formula.neg f) t = lowering_keeps h (not s) f t ∙ turn_not s (value h f t)
lowering_keeps h s (Formula.pair o f g) t =
    paired_worth h o s (λ z. lowered z f) (λ z. lowered z g) t (value h f t) (value h g t) (λ z. lowering_keeps h z f t) (λ z. lowering_keeps h z g t)
lowering_keeps h s (Formula.time u lo n f) t =
    ap (λ (p : ℕ → Bool). over_offsets (turn u s) p lo n) (fun_ext (λ k. lowering_keeps h s f (at_offset t k))) ∙ turn_offsets u s (λ k. value h f (at_offset t k)) lo n
