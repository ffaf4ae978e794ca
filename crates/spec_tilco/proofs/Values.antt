-- What formulas mean: and, or, @ and ?, said with "every" and "some".
-- Assumes nothing.
use mathlib.Core.Path.{◌≡◌, refl, sym, ◌∙◌, ap}
use mathlib.Core.Logic.{◌⊎◌, inl, inr, ◌↔◌}
use mathlib.Core.Bool.{Bool, true, false, not}
use Prim.Native.Nat.{ℕ, zero, suc, ◌+◌, ◌≤◌}
use native.Mathlib.Nat.{add-zero}
use native.Mathlib.Decide.{dec_le}
use native.Mathlib.Omega.{arith}
use lib.IntN.{ℤ}
use Rattle.spec_tilco.specs.Formula.{Formula}
use Rattle.spec_tilco.specs.Meaning.{History, at_offset, gate_of, over_offsets, value}

-- ---- a gate's value u is both children's; its other value is one child's

pub both_left : (u x y : Bool) → gate_of u x y ≡ u → x ≡ u
both_left true true y h = refl
both_left true false y h = h
both_left false false y h = refl
both_left false true y h = h

pub both_right : (u x y : Bool) → gate_of u x y ≡ u → y ≡ u
both_right true true y h = h
both_right true false true h = refl
both_right true false false h = h
both_right false false y h = h
both_right false true true h = h
both_right false true false h = refl

pub of_both : (u x y : Bool) → x ≡ u → y ≡ u → gate_of u x y ≡ u
of_both true x y h k = cc
of_both false x y h k = cc

pub of_left : (u x y : Bool) → x ≡ not u → gate_of u x y ≡ not u
of_left true x y h = cc
of_left false x y h = cc

pub of_right : (u x y : Bool) → y ≡ not u → gate_of u x y ≡ not u
of_right true true y h = h
of_right true false y h = refl
of_right false true y h = refl
of_right false false y h = h

pub other_right : (u x y : Bool) → gate_of u x y ≡ not u → x ≡ u → y ≡ not u
other_right true x y h k = cc
other_right false x y h k = cc

pub other_left : (u x y : Bool) → gate_of u x y ≡ not u → y ≡ u → x ≡ not u
other_left true true y h k = sym k ∙ h
other_left true false y h k = refl
other_left false true y h k = refl
other_left false false y h k = sym k ∙ h

pub either_side : (u x y : Bool) → gate_of u x y ≡ not u → (x ≡ not u) ⊎ (y ≡ not u)
either_side true true y e = inr e
either_side true false y e = inl refl
either_side false true y e = inl refl
either_side false false y e = inr e

-- ---- @ and ?

module _ (u : Bool) (p : ℕ → Bool) (lo : ℕ) where
  at_each : (n : ℕ) → over_offsets u p lo n ≡ u → (j : ℕ) → j ≤ n → p (lo + j) ≡ u
  at_each zero e j h = let z : lo + j ≡ lo = omega arith in ap p z ∙ e
  at_each (suc n) e j h = go (dec_le j n) (at_each n (both_left u (over_offsets u p lo n) (p (lo + suc n)) e) j)
    where
      go : Dec (j ≤ n) → (j ≤ n → p (lo + j) ≡ u) → p (lo + j) ≡ u
      go (yes l) k = k l
      go (no l) k = let z : lo + j ≡ lo + suc n = omega arith in ap p z ∙ both_right u (over_offsets u p lo n) (p (lo + suc n)) e

  of_each : (n : ℕ) → ((j : ℕ) → j ≤ n → p (lo + j) ≡ u) → over_offsets u p lo n ≡ u
  of_each zero f = ap p (sym (add-zero lo)) ∙ f 0 (omega arith)
  of_each (suc n) f = of_both u (over_offsets u p lo n) (p (lo + suc n)) (of_each n (λ j h. f j (omega arith))) (f (suc n) (omega arith))

  at_some : (n : ℕ) → over_offsets u p lo n ≡ not u → (j : ℕ) × (j ≤ n) × (p (lo + j) ≡ not u)
  at_some zero e = (0, omega arith, ap p (add-zero lo) ∙ e)
  at_some (suc n) e = go (either_side u (over_offsets u p lo n) (p (lo + suc n)) e) (at_some n)
    where
      go : (over_offsets u p lo n ≡ not u) ⊎ (p (lo + suc n) ≡ not u) → (over_offsets u p lo n ≡ not u → (j : ℕ) × (j ≤ n) × (p (lo + j) ≡ not u)) → (j : ℕ) × (j ≤ suc n) × (p (lo + j) ≡ not u)
      go (inl z) k = let r = k z in (r.0, omega arith, r.2)
      go (inr z) k = (suc n, omega arith, z)

  of_some : (n j : ℕ) → j ≤ n → p (lo + j) ≡ not u → over_offsets u p lo n ≡ not u
  of_some zero j h e = let z : lo ≡ lo + j = omega arith in ap p z ∙ e
  of_some (suc n) j h e = go (dec_le j n) (λ l. of_some n j l e)
    where
      go : Dec (j ≤ n) → (j ≤ n → over_offsets u p lo n ≡ not u) → over_offsets u p lo (suc n) ≡ not u
      go (yes l) k = of_left u (over_offsets u p lo n) (p (lo + suc n)) (k l)
      go (no l) k = let z : lo + suc n ≡ lo + j = omega arith in of_right u (over_offsets u p lo n) (p (lo + suc n)) (ap p z ∙ e)

-- f@i is true at t when f is true at t + x for every whole x in the interval.
pub always_means : (h : History) (f : Formula) (lo n : ℕ) (t : ℤ)
    → (value h (Formula.time true lo n f) t ≡ true) ↔ ((j : ℕ) → j ≤ n → value h f (at_offset t (lo + j)) ≡ true)
always_means h f lo n t = (at_each true (λ k. value h f (at_offset t k)) lo n, of_each true (λ k. value h f (at_offset t k)) lo n)

-- f?i for at least one.
pub sometime_means : (h : History) (f : Formula) (lo n : ℕ) (t : ℤ)
    → (value h (Formula.time false lo n f) t ≡ true) ↔ ((j : ℕ) × (j ≤ n) × (value h f (at_offset t (lo + j)) ≡ true))
sometime_means h f lo n t =
    (at_some false (λ k. value h f (at_offset t k)) lo n, λ r. of_some false (λ k. value h f (at_offset t k)) lo n r.0 r.1 r.2)
