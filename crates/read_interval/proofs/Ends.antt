-- The ends of an interval: an end's first bytes decide how it is read, and it has a byte at least.
-- Assumes nothing.
use mathlib.Core.Path.{◌≡◌, refl, sym, subst, ◌∙◌}
use mathlib.Core.Bool.{Bool, true, false}
use mathlib.Core.List.{List}
use Prim.Native.Nat.{ℕ, ◌+◌, ◌<◌, ◌≤◌}
use native.Mathlib.Omega.{arith}
use borrow.Author.Tests.{ne_eqb, eqb-true}
use lib.Dec.{eqb}
use lib.ListN.{length}
use Rattle.std.specs.Prelude.{Some, None}
use Rattle.read_bytes.specs.Bytes.{byte, peek, pick}
use Rattle.read_bytes.specs.Numbers.{digits}
use Rattle.read_bytes.proofs.Tests.{between_in, between_is}
use Rattle.read_bytes.proofs.Places.{Reach, inside}
use Rattle.read_bytes.proofs.Values.{same_second, same_some, none_not, digit_inside, digits_on, digits_reach}
use Rattle.read_interval.specs.Interval.{signed, leading, end_at, end_zero}

-- A byte that is no LF has a place after it.
pub past : (s : List ℕ) (p b : ℕ) → b ≡ peek s p → (b ≡ byte "\n" → ⊥) → p + 1 ≤ length s
past s p b eb n =
    let i = inside s p (λ e. n (eb ∙ e)) in
    omega arith

-- Four digits stay below 10,000.
pub four_most : (s : List ℕ) (p : ℕ) {v q : ℕ} → p ≤ length s → (v, q) ≡ digits s 4 p 0 → v < end_zero
four_most s p h a = omega (arith, (digits_reach s 4 p 0 h (sym a)).1)

-- An end's first byte decides how it is read, and after a `-` the second.
module _ (s : List ℕ) (p b : ℕ) (eb : b ≡ peek s p) where
  pub end_zero_lem : b ≡ byte "0" → Some (end_zero, p + 1) ≡ end_at s p
  unfolding end_at
  end_zero_lem e = rw (sym eb ∙ e)

  pub end_plus : byte "1" ≤ b → b ≤ byte "9" → Some (signed true (digits s 4 p 0)) ≡ end_at s p
  unfolding end_at
  end_plus h k =
      let m : leading (peek s p) ≡ true = rw eb at (between_in (byte "1") (byte "9") b h k) in
      let n : eqb (peek s p) (byte "0") ≡ false = ne_eqb (peek s p) (byte "0") (omega arith) in
      rw (n, m)

  pub end_minus : (e : ℕ) → e ≡ peek s (p + 1) → b ≡ byte "-" → {t : Bool} → leading e ≡ t → pick t (λ _. Some (signed false (digits s 4 (p + 1) 0))) None ≡ end_at s p
  unfolding end_at
  end_minus e ee m h = rw (sym eb ∙ m, ← ee, h)

  pub end_none : (b ≡ byte "0" → ⊥) → (b ≡ byte "-" → ⊥) → leading b ≡ false → None ≡ end_at s p
  unfolding end_at
  end_none z m h =
      let l : leading (peek s p) ≡ false = rw eb at h in
      rw (ne_eqb (peek s p) (byte "0") (λ x. z (eb ∙ x)), l, ne_eqb (peek s p) (byte "-") (λ x. m (eb ∙ x)))

-- Digits of which the first is not 0 are one at least.
digits_ahead : (s : List ℕ) (p : ℕ) → leading (peek s p) ≡ true → (v q : ℕ) → digits s 4 p 0 ≡ (v, q) → Reach s (p + 1) q
digits_ahead s p h v q e =
    let w = between_is (byte "1") (byte "9") (peek s p) h in
    let d = digits_on s 4 p 0 (peek s p) (omega arith) refl (omega (arith, w.0)) w.1 in
    (digits_reach s 3 (p + 1) _ d.1 (sym d.0 ∙ e)).0

-- What holds of the place after the digits holds of the place after the end.
signed_place : (R : ℕ → Type 0) (plus : Bool) (d : ℕ × ℕ) → ((x y : ℕ) → d ≡ (x, y) → R y) → {v q : ℕ} → Some (signed plus d) ≡ Some (v, q) → R q
unfolding signed
signed_place R plus (x, y) k {v} {q} e = let j : y ≡ q = same_second (same_some e) in subst R j (k x y refl)

-- Where an end stops.
pub end_reach : (s : List ℕ) (p : ℕ) {v q : ℕ} → end_at s p ≡ Some (v, q) → Reach s (p + 1) q
unfolding end_at
end_reach s p {v} {q} e = go (eqb (peek s p) (byte "0")) refl (leading (peek s p)) refl (eqb (peek s p) (byte "-")) refl (leading (peek s (p + 1))) refl
  where
    go : (z : Bool) → eqb (peek s p) (byte "0") ≡ z → (l : Bool) → leading (peek s p) ≡ l → (m : Bool) → eqb (peek s p) (byte "-") ≡ m → (n : Bool) → leading (peek s (p + 1)) ≡ n → Reach s (p + 1) q
    go true ez l el m em n en =
        let b = eqb-true (peek s p) (byte "0") ez in
        let i = digit_inside s p (rw b) in
        let a : Some (end_zero, p + 1) ≡ Some (v, q) = rw ez at e in
        let j : p + 1 ≡ q = same_second (same_some a) in
        record { ahead = omega arith; inside = omega arith }
    go false ez true el m em n en = signed_place (Reach s (p + 1)) true (digits s 4 p 0) (digits_ahead s p el) (rw (ez, el) at e)
    go false ez false el true em true en =
        let r = signed_place (Reach s (p + 1 + 1)) false (digits s 4 (p + 1) 0) (digits_ahead s (p + 1) en) (rw (ez, el, em, en) at e) in
        record { ahead = omega (arith, r.ahead); inside = r.inside }
    go false ez false el true em false en = absurd (none_not (rw (ez, el, em, en) at e))
    go false ez false el false em n en = absurd (none_not (rw (ez, el, em) at e))
