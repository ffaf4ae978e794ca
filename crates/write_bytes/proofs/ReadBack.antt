-- A number of at most five digits that is written is read back as itself.
-- Assumes nothing.
use mathlib.Core.Path.{◌≡◌, refl, sym, ap, ◌∙◌}
use mathlib.Core.Bool.{true, false}
use mathlib.Core.List.{List, [], ◌∷◌}
use Prim.Native.Nat.{ℕ, zero, suc, ◌+◌, ◌-◌, ◌*◌, ◌/◌, ◌%◌, ◌^◌, ◌<◌}
use native.Mathlib.Decide.{dec_lt, ℕ_discrete}
use native.Mathlib.Nat.{add-zero}
use native.Mathlib.Omega.{arith}
use lib.ListN.{length, length-append}
use Rattle.std.specs.Prelude.{Some}
use Rattle.read_bytes.specs.Bytes.{byte, peek, between, digit, starts}
use Rattle.read_bytes.specs.Numbers.{digits, number}
use Rattle.read_bytes.proofs.Tests.{between_in, between_is}
use Rattle.read_bytes.proofs.Values.{digits_on, digits_off, number_zero, number_some}
use Rattle.write_bytes.specs.Writes.{last_digits, decimal_text}
use Rattle.write_bytes.proofs.Decimals.{tenth, digits_one, digits_then, decimal_most}
use Rattle.write_bytes.proofs.Standing.{starts_both, starts_one}

module _ (s : List ℕ) where
  -- One digit is read.
  digit_read : (j p v d : ℕ) → d < 10 → byte "0" + d ≡ peek s p → digits s (1 + j) p v ≡ digits s j (p + 1) (10 * v + d)
  digit_read j p v d h e =
      let r = (digits_on s (1 + j) p v (byte "0" + d) (omega arith) e (omega arith) (omega arith)).0 in
      let k : 1 + j - 1 ≡ j = omega arith in
      let x : byte "0" + d - byte "0" ≡ d = omega arith in
      rw (k, x) at r

  -- All digits of a number are read.
  digits_read : (k n j p : ℕ) → n < 10 ^ k → starts s p (last_digits k n) ≡ true → digits s (length (last_digits k n) + j) p 0 ≡ digits s j (p + length (last_digits k n)) n
  unfolding last_digits
  digits_read zero n j p h a = let e : n ≡ 0 = omega arith in let z : 0 + j ≡ j = omega arith in rw (e, z, add-zero)
  digits_read (suc k) n j p h a = go (dec_lt n 10) (digits_read k (n / 10) (1 + j) p (tenth k n h))
    where
      go : Dec (n < 10) → (starts s p (last_digits k (n / 10)) ≡ true → digits s (length (last_digits k (n / 10)) + (1 + j)) p 0 ≡ digits s (1 + j) (p + length (last_digits k (n / 10))) (n / 10))
          → digits s (length (last_digits (suc k) n) + j) p 0 ≡ digits s j (p + length (last_digits (suc k) n)) n
      go (yes l) i =
          let o = digits_one k n l in
          let z : 10 * 0 + n ≡ n = omega arith in
          let r = digit_read j p 0 n l (starts_one s p (byte "0" + n) (rw o at a)) in
          rw o (rw z at r)
      go (no l) i =
          let o = digits_then k n (omega arith) in
          let w = last_digits k (n / 10) in
          let b = starts_both s p w ((byte "0" + n % 10) ∷ []) (rw o at a) in
          let r = digit_read j (p + length w) (n / 10) (n % 10) (omega arith) (starts_one s (p + length w) (byte "0" + n % 10) b.1) in
          let z : 10 * (n / 10) + n % 10 ≡ n = omega arith in
          let x : length w + (1 + j) ≡ length w + 1 + j = omega arith in
          let y : p + length w + 1 ≡ p + (length w + 1) = omega arith in
          rw (o, length-append)
          (ap (λ (q : ℕ). digits s q p 0) (sym x) ∙ i b.0 ∙ r ∙ ap (λ (q : ℕ). digits s j q (10 * (n / 10) + n % 10)) y ∙ ap (digits s j (p + (length w + 1))) z)

  -- The first digit of a number that is not 0 is not 0.
  first_read : (k n p : ℕ) → 0 < n → n < 10 ^ k → starts s p (last_digits k n) ≡ true → between (byte "1") (byte "9") (peek s p) ≡ true
  first_read zero n p z h a = let w : ⊥ = omega arith in absurd w
  first_read (suc k) n p z h a = go (dec_lt n 10) (first_read k (n / 10) p)
    where
      go : Dec (n < 10) → (0 < n / 10 → n / 10 < 10 ^ k → starts s p (last_digits k (n / 10)) ≡ true → between (byte "1") (byte "9") (peek s p) ≡ true) → between (byte "1") (byte "9") (peek s p) ≡ true
      go (yes l) i =
          let e = starts_one s p (byte "0" + n) (rw (digits_one k n l) at a) in
          between_in (byte "1") (byte "9") (peek s p) (omega arith) (omega arith)
      go (no l) i =
          let b = starts_both s p (last_digits k (n / 10)) ((byte "0" + n % 10) ∷ []) (rw (digits_then k n (omega arith)) at a) in
          i (omega arith) (tenth k n h) b.0

  -- A number that stands at p, with no digit after it, is read there.
  pub number_back : (p n : ℕ) → n < 100000 → starts s p (decimal_text n) ≡ true → digit (peek s (p + length (decimal_text n))) ≡ false → number s p ≡ Some (n, p + length (decimal_text n))
  unfolding decimal_text
  number_back p n h a stop = go (ℕ_discrete n 0)
    where
      go : Dec (n ≡ 0) → number s p ≡ Some (n, p + length (last_digits 20 n))
      go (yes e) =
          let o = digits_one 19 n (omega arith) in
          let f = starts_one s p (byte "0" + n) (rw o at a) in
          let l : p + 1 ≡ p + length (last_digits 20 n) = omega (arith, ap length o) in
          sym (number_zero s p (byte "0" + n) f (omega arith)) ∙ ap (λ (q : ℕ). Some (0, q)) l ∙ ap (λ (x : ℕ). Some (x, p + length (last_digits 20 n))) (sym e)
      go (no e) =
          let b = between_is (byte "1") (byte "9") (peek s p) (first_read 20 n p (omega arith) (omega arith) a) in
          let m = decimal_most 4 n h in
          let w = last_digits 20 n in
          let k : length w + (5 - length w) ≡ 5 = omega arith in
          sym (number_some s p (peek s p) refl b.0 b.1) ∙ ap Some (ap (λ (q : ℕ). digits s q p 0) (sym k) ∙ digits_read 20 n (5 - length w) p (omega arith) a ∙ digits_off s (5 - length w) (p + length w) n (peek s (p + length w)) refl stop)
