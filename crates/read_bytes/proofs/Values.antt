-- Numbers: digits one at a time, and where they end and how large they can be.
-- Assumes nothing.
use mathlib.Core.Path.{◌≡◌, refl, sym, ap, ◌∙◌}
use mathlib.Core.Bool.{Bool, true, false}
use mathlib.Core.List.{List}
use Prim.Native.Nat.{ℕ, zero, suc, ◌+◌, ◌-◌, ◌*◌, ◌^◌, ◌<◌, ◌≤◌}
use native.Mathlib.Nat.{mul-le-mul_left, mul-le-mul_right, mul_assoc, mul_left_comm, pow-succ', one-le-pow, pow-le-pow_right}
use native.Mathlib.Omega.{arith}
use borrow.Author.Tests.{ne_eqb, eqb-true}
use lib.Dec.{eqb}
use lib.ListN.{length}
use Rattle.std.specs.Prelude.{Option, Some, None}
use Rattle.read_bytes.specs.Bytes.{byte, peek, between, digit}
use Rattle.read_bytes.specs.Numbers.{digits, number}
use Rattle.read_bytes.proofs.Tests.{between_in, between_is}
use Rattle.read_bytes.proofs.Places.{Reach, inside_test}

-- What equal pairs, and values that are there, have in common.
module _ {A B : Type 0} {a c : A} {b d : B} (e : ◌≡◌ {A = A × B} (a, b) (c, d)) where
  pub same_first : a ≡ c
  same_first = ap (λ (z : A × B). z.0) e

  pub same_second : b ≡ d
  same_second = ap (λ (z : A × B). z.1) e

pub same_some : {A : Type 0} {a b : A} → ◌≡◌ {A = Option A} (Some a) (Some b) → a ≡ b
same_some e = cc

pub none_not : {A : Type 0} {a : A} → ◌≡◌ {A = Option A} None (Some a) → ⊥
none_not e = let z : ◌≡◌ {A = ℕ} 0 1 = cc in omega arith

-- A value and k digits after it stay below the next value and k noughts.
pub ten_less : (v k : ℕ) → v < (v + 1) * 10 ^ k
ten_less v k = omega (arith, mul-le-mul_left (v + 1) (one-le-pow k 10 (omega arith)))

pub ten_step : (k v x : ℕ) → x < 10 → (10 * v + x + 1) * 10 ^ k ≤ (v + 1) * 10 ^ suc k
ten_step k v x h =
    let w : 10 * v + x + 1 ≤ 10 * (v + 1) = omega arith in
    let a : (10 * v + x + 1) * 10 ^ k ≤ (10 * (v + 1)) * 10 ^ k = mul-le-mul_right (10 ^ k) w in
    let b : (10 * (v + 1)) * 10 ^ k ≡ 10 * ((v + 1) * 10 ^ k) = mul_assoc 10 (v + 1) (10 ^ k) in
    let d : (v + 1) * (10 * 10 ^ k) ≡ 10 * ((v + 1) * 10 ^ k) = mul_left_comm (v + 1) 10 (10 ^ k) in
    rw (pow-succ' 10 k) (omega (arith, a, b, d))

pub ten_most : (k : ℕ) → k ≤ 5 → (0 + 1) * 10 ^ k ≤ 100000
ten_most k h = omega (arith, pow-le-pow_right {n = 10} (omega arith) h)

module _ (s : List ℕ) where
  pub digit_inside : (p : ℕ) → digit (peek s p) ≡ true → p < length s
  digit_inside p e = inside_test s p digit refl e

  digits_stop : (k p v : ℕ) → digit (peek s p) ≡ false → digits s k p v ≡ (v, p)
  unfolding digits
  digits_stop zero p v e = refl
  digits_stop (suc k) p v e = rw (digits, e)

  digits_step : (k p v : ℕ) → digit (peek s p) ≡ true → digits s (suc k) p v ≡ digits s k (p + 1) (10 * v + (peek s p - byte "0"))
  unfolding digits
  digits_step k p v e = rw e

  -- A digit more: the same number, inside the text, and no larger than before.
  pub digits_on : (k p v b : ℕ) → 0 < k → b ≡ peek s p → byte "0" ≤ b → b ≤ byte "9" → (digits s k p v ≡ digits s (k - 1) (p + 1) (10 * v + (b - byte "0"))) × (p + 1 ≤ length s) × ((10 * v + (b - byte "0") + 1) * 10 ^ (k - 1) ≤ (v + 1) * 10 ^ k)
  digits_on zero p v b z e lo hi = let w : ⊥ = omega arith in absurd w
  digits_on (suc k) p v b z e lo hi =
      let back : suc k - 1 ≡ k = omega arith in
      let d : digit (peek s p) ≡ true = rw e at (between_in (byte "0") (byte "9") b lo hi) in
      let l = digit_inside p d in
      (rw (back, e) (digits_step k p v d), omega arith, rw back (ten_step k v (b - byte "0") (omega arith)))

  pub digits_off : (k p v b : ℕ) → b ≡ peek s p → digit b ≡ false → digits s k p v ≡ (v, p)
  digits_off k p v b e d = digits_stop k p v (rw e at d)

  pub digits_none : (k p v : ℕ) → k ≡ 0 → digits s k p v ≡ (v, p)
  unfolding digits
  digits_none k p v e = rw e

  -- Where digits end, and how large their value is.
  pub digits_reach : (k p v : ℕ) {x q : ℕ} → p ≤ length s → digits s k p v ≡ (x, q) → Reach s p q × (x < (v + 1) * 10 ^ k)
  unfolding digits
  digits_reach zero p v {x} {q} h e =
      let i : v ≡ x = same_first e in
      let j : p ≡ q = same_second e in
      (record { ahead = omega arith; inside = omega arith }, omega (arith, ten_less v 0))
  digits_reach (suc k) p v {x} {q} h e = go (digit (peek s p)) refl (λ i f. digits_reach k (p + 1) (10 * v + (peek s p - byte "0")) i f)
    where
      go : (b : Bool) → digit (peek s p) ≡ b → (p + 1 ≤ length s → digits s k (p + 1) (10 * v + (peek s p - byte "0")) ≡ (x, q) → Reach s (p + 1) q × (x < (10 * v + (peek s p - byte "0") + 1) * 10 ^ k)) → Reach s p q × (x < (v + 1) * 10 ^ suc k)
      go true d r =
          let w = between_is (byte "0") (byte "9") (peek s p) d in
          let l = digit_inside p d in
          let a = r (omega arith) (sym (digits_step k p v d) ∙ e) in
          let m = ten_step k v (peek s p - byte "0") (omega (arith, w.1)) in
          (record { ahead = omega (arith, a.0.ahead); inside = a.0.inside }, omega (arith, a.1))
      go false d r =
          let f = sym (digits_stop (suc k) p v d) ∙ e in
          let i : v ≡ x = same_first f in
          let j : p ≡ q = same_second f in
          (record { ahead = omega arith; inside = omega arith }, omega (arith, ten_less v (suc k)))

-- A number's first byte decides how it is read.
module _ (s : List ℕ) (p b : ℕ) (eb : b ≡ peek s p) where
  pub number_zero : b ≡ byte "0" → Some (0, p + 1) ≡ number s p
  unfolding number
  number_zero e = rw (sym eb ∙ e)

  pub number_some : byte "1" ≤ b → b ≤ byte "9" → Some (digits s 5 p 0) ≡ number s p
  unfolding number
  number_some h k =
      let m : between (byte "1") (byte "9") (peek s p) ≡ true = rw eb at (between_in (byte "1") (byte "9") b h k) in
      let n : eqb (peek s p) (byte "0") ≡ false = ne_eqb (peek s p) (byte "0") (omega arith) in
      rw (n, m)

  pub number_none : (b ≡ byte "0" → ⊥) → between (byte "1") (byte "9") b ≡ false → None ≡ number s p
  unfolding number
  number_none z h =
      let m : between (byte "1") (byte "9") (peek s p) ≡ false = rw eb at h in
      let n : eqb (peek s p) (byte "0") ≡ false = ne_eqb (peek s p) (byte "0") (λ x. z (eb ∙ x)) in
      rw (n, m)

-- Where a number ends, and how large it is.
pub number_reach : (s : List ℕ) (p : ℕ) {x q : ℕ} → number s p ≡ Some (x, q) → Reach s (p + 1) q × (x < 100000)
unfolding number
number_reach s p {x} {q} e = go (eqb (peek s p) (byte "0")) refl (between (byte "1") (byte "9") (peek s p)) refl
  where
    go : (b : Bool) → eqb (peek s p) (byte "0") ≡ b → (c : Bool) → between (byte "1") (byte "9") (peek s p) ≡ c → Reach s (p + 1) q × (x < 100000)
    go true f c g =
        let z = eqb-true (peek s p) (byte "0") f in
        let l = digit_inside s p (rw z) in
        let a : Some (0, p + 1) ≡ Some (x, q) = rw f at e in
        let i : 0 ≡ x = same_first (same_some a) in
        let j : p + 1 ≡ q = same_second (same_some a) in
        (record { ahead = omega arith; inside = omega arith }, omega arith)
    go false f true g =
        let w = between_is (byte "1") (byte "9") (peek s p) g in
        let d = between_in (byte "0") (byte "9") (peek s p) (omega (arith, w.0)) w.1 in
        let l = digit_inside s p d in
        let a : digits s 5 p 0 ≡ (x, q) = same_some (rw (f, g) at e) in
        let r = digits_reach s 4 (p + 1) (10 * 0 + (peek s p - byte "0")) (omega arith) (sym (digits_step s 4 p 0 d) ∙ a) in
        (r.0, omega (arith, (digits_reach s 5 p 0 (omega arith) a).1))
    go false f false g = absurd (none_not (rw (f, g) at e))
