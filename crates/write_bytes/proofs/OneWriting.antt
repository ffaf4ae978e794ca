-- A number that is read has just one writing: the bytes that were read are its decimal digits.
-- Assumes nothing.
use mathlib.Core.Path.{◌≡◌, refl, sym, ap, ◌∙◌}
use mathlib.Core.Bool.{Bool, true, false}
use mathlib.Core.List.{List, [], ◌∷◌, ◌++◌}
use Prim.Native.Nat.{ℕ, zero, suc, ◌+◌, ◌-◌, ◌*◌, ◌/◌, ◌%◌, ◌^◌, ◌<◌, ◌≤◌}
use native.Mathlib.Nat.{mul-le-mul_left, one-le-pow}
use native.Mathlib.Omega.{arith}
use borrow.Author.Tests.{eqb-true}
use lib.Dec.{eqb}
use lib.ListN.{length, length-append}
use Rattle.std.specs.Prelude.{Some}
use Rattle.read_bytes.specs.Bytes.{byte, peek, between, digit, starts}
use Rattle.read_bytes.specs.Numbers.{digits, number}
use Rattle.read_bytes.proofs.Tests.{between_is}
use Rattle.read_bytes.proofs.Values.{same_first, same_second, same_some, none_not, ten_step, digits_on}
use Rattle.write_bytes.specs.Writes.{decimal_text}
use Rattle.write_bytes.proofs.Decimals.{decimal_one, decimal_more}
use Rattle.write_bytes.proofs.Standing.{starts_then, one_starts}

-- A digit more after a number that is not 0.
digit_more : (v d : ℕ) → 0 < v → d < 10 → 10 * v + d < 2 ^ 64 → decimal_text (10 * v + d) ≡ decimal_text v ++ ((byte "0" + d) ∷ [])
digit_more v d z h l =
    let a : (10 * v + d) / 10 ≡ v = omega arith in
    let b : (10 * v + d) % 10 ≡ d = omega arith in
    decimal_more (10 * v + d) (omega arith) l ∙ rw (a, b)

-- The digits of n stand at p, up to q.
abbrev Written : List ℕ → ℕ → ℕ → ℕ → Type 0
Written s p n q = (starts s p (decimal_text n) ≡ true) × (q ≡ p + length (decimal_text n))

module _ (s : List ℕ) (p : ℕ) where
  -- One digit.
  digit_written : (d : ℕ) → d < 10 → byte "0" + d ≡ peek s p → Written s p d (p + 1)
  digit_written d h e =
      let m : d % 10 ≡ d = omega arith in
      let o = decimal_one d h ∙ ap (λ (x : ℕ). (byte "0" + x) ∷ []) m in
      (rw o (one_starts s p (byte "0" + d) e), omega (arith, ap length o))

  -- A digit more.
  more_written : (v d q : ℕ) → 0 < v → d < 10 → 10 * v + d < 2 ^ 64 → Written s p v q → byte "0" + d ≡ peek s q → Written s p (10 * v + d) (q + 1)
  more_written v d q z h l w e =
      let o = digit_more v d z h l in
      let f = one_starts s q (byte "0" + d) e in
      let i = w.1 in
      (rw o (starts_then s p (decimal_text v) ((byte "0" + d) ∷ []) w.0 (rw i at f)), omega (arith, ap length o, length-append (decimal_text v) ((byte "0" + d) ∷ [])))

  -- At most k digits more.
  digits_written : (k q v : ℕ) {n r : ℕ} → 0 < v → (v + 1) * 10 ^ k ≤ 100000 → Written s p v q → digits s k q v ≡ (n, r) → Written s p n r
  unfolding digits
  digits_written zero q v {n} {r} z m w e =
      let i : v ≡ n = same_first e in
      let j : q ≡ r = same_second e in
      rw (← i, ← j) w
  digits_written (suc k) q v {n} {r} z m w e = go (digit (peek s q)) refl (digits_written k (q + 1) (10 * v + (peek s q - byte "0")))
    where
      d : ℕ
      d = peek s q - byte "0"

      go : (b : Bool) → digit (peek s q) ≡ b → (0 < 10 * v + d → (10 * v + d + 1) * 10 ^ k ≤ 100000 → Written s p (10 * v + d) (q + 1) → digits s k (q + 1) (10 * v + d) ≡ (n, r) → Written s p n r) → Written s p n r
      go true f i =
          let b = between_is (byte "0") (byte "9") (peek s q) f in
          let t = ten_step k v d (omega (arith, b.1)) in
          let l : 10 * v + d + 1 ≤ (10 * v + d + 1) * 10 ^ k = omega (arith, mul-le-mul_left (10 * v + d + 1) (one-le-pow k 10 (omega arith))) in
          i (omega arith) (omega arith) (more_written v d q z (omega (arith, b.1)) (omega arith) w (omega (arith, b.0))) (rw f at e)
      go false f i =
          let g : (v, q) ≡ (n, r) = rw f at e in
          let x : v ≡ n = same_first g in
          let y : q ≡ r = same_second g in
          rw (← x, ← y) w

  -- The bytes of a number that is read are its digits.
  pub number_text_lem : {n q : ℕ} → number s p ≡ Some (n, q) → (starts s p (decimal_text n) ≡ true) × (q ≡ p + length (decimal_text n))
  unfolding number
  number_text_lem {n} {q} e = go (eqb (peek s p) (byte "0")) refl (between (byte "1") (byte "9") (peek s p)) refl
    where
      go : (b : Bool) → eqb (peek s p) (byte "0") ≡ b → (c : Bool) → between (byte "1") (byte "9") (peek s p) ≡ c → Written s p n q
      go true f c g =
          let a : (0, p + 1) ≡ (n, q) = same_some (rw f at e) in
          let i = same_first a in
          let j = same_second a in
          let z = eqb-true (peek s p) (byte "0") f in
          rw (← i, ← j) (digit_written 0 (omega arith) (omega arith))
      go false f true g =
          let a : digits s 5 p 0 ≡ (n, q) = same_some (rw (f, g) at e) in
          let b = between_is (byte "1") (byte "9") (peek s p) g in
          let d = peek s p - byte "0" in
          let o = digits_on s 5 p 0 (peek s p) (omega arith) refl (omega (arith, b.0)) b.1 in
          let x : 10 * 0 + d ≡ d = omega arith in
          let first = digit_written d (omega (arith, b.1)) (omega (arith, b.0)) in
          digits_written 4 (p + 1) (10 * 0 + d) (omega (arith, b.0)) (omega (arith, o.2)) (rw x first) (sym o.0 ∙ a)
      go false f false g = absurd (none_not (rw (f, g) at e))
