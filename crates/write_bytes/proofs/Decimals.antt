-- Numbers in decimal digits: the last digit after the others, and how many there are.
-- Assumes nothing.
use mathlib.Core.Path.{◌≡◌, sym, ap, ◌∙◌}
use mathlib.Core.List.{List, [], ◌∷◌, ◌++◌}
use Prim.Native.Nat.{ℕ, zero, suc, ◌+◌, ◌/◌, ◌%◌, ◌^◌, ◌<◌, ◌≤◌}
use native.Mathlib.Decide.{dec_lt}
use native.Mathlib.Nat.{pow-suc}
use native.Mathlib.Omega.{arith}
use borrow.Author.Tests.{lt-ltb, le-ltb}
use lib.ListN.{length, length-append}
use Rattle.read_bytes.specs.Bytes.{byte}
use Rattle.write_bytes.specs.Writes.{last_digits, decimal_text}

module _ (k n : ℕ) where
  pub digits_one : n < 10 → last_digits (suc k) n ≡ (byte "0" + n) ∷ []
  unfolding last_digits
  digits_one h = rw (lt-ltb n 10 h)

  pub digits_then : 10 ≤ n → last_digits (suc k) n ≡ last_digits k (n / 10) ++ ((byte "0" + n % 10) ∷ [])
  unfolding last_digits
  digits_then h = rw (le-ltb n 10 h)

-- A number with one digit fewer.
pub tenth : (k n : ℕ) → n < 10 ^ suc k → n / 10 < 10 ^ k
tenth k n h = omega (arith, pow-suc 10 k)

-- Room for a digit more changes nothing where there is no such digit.
digits_enough : (k n : ℕ) → n < 10 ^ suc k → last_digits (suc k) n ≡ last_digits (suc (suc k)) n
digits_enough zero n h = digits_one 0 n h ∙ sym (digits_one 1 n h)
digits_enough (suc k) n h = go (dec_lt n 10) (digits_enough k (n / 10) (tenth (suc k) n h))
  where
    go : Dec (n < 10) → last_digits (suc k) (n / 10) ≡ last_digits (suc (suc k)) (n / 10) → last_digits (suc (suc k)) n ≡ last_digits (suc (suc (suc k))) n
    go (yes l) i = digits_one (suc k) n l ∙ sym (digits_one (suc (suc k)) n l)
    go (no l) i = digits_then (suc k) n (omega arith) ∙ ap (λ (d : List ℕ). d ++ ((byte "0" + n % 10) ∷ [])) i ∙ sym (digits_then (suc (suc k)) n (omega arith))

-- A number below ten is its digit.
pub decimal_one : (n : ℕ) → n < 10 → decimal_text n ≡ (byte "0" + n % 10) ∷ []
unfolding decimal_text
decimal_one n h = let e : n ≡ n % 10 = omega arith in digits_one 19 n h ∙ ap (λ (d : ℕ). (byte "0" + d) ∷ []) e

-- Any other is its tenth and its last digit.
pub decimal_more : (n : ℕ) → 10 ≤ n → n < 2 ^ 64 → decimal_text n ≡ decimal_text (n / 10) ++ ((byte "0" + n % 10) ∷ [])
unfolding decimal_text
decimal_more n h l =
    digits_then 19 n h ∙ ap (λ (d : List ℕ). d ++ ((byte "0" + n % 10) ∷ [])) (digits_enough 18 (n / 10) (omega arith))

-- So it has one digit more than its tenth.
pub decimal_longer : (n : ℕ) → 10 ≤ n → n < 2 ^ 64 → length (decimal_text n) ≡ length (decimal_text (n / 10)) + 1
decimal_longer n h l = ap length (decimal_more n h l) ∙ length-append (decimal_text (n / 10)) ((byte "0" + n % 10) ∷ [])

digits_most : (k j n : ℕ) → n < 10 ^ suc j → length (last_digits k n) ≤ suc j
unfolding last_digits
digits_most zero j n h = omega arith
digits_most (suc k) j n h = go (dec_lt n 10) j h (digits_most k)
  where
    go : Dec (n < 10) → (j : ℕ) → n < 10 ^ suc j → ((j n : ℕ) → n < 10 ^ suc j → length (last_digits k n) ≤ suc j) → length (last_digits (suc k) n) ≤ suc j
    go (yes l) j h i = let e = ap length (digits_one k n l) in omega arith
    go (no l) zero h i = let z : ⊥ = omega arith in absurd z
    go (no l) (suc j) h i =
        let e = ap length (digits_then k n (omega arith)) in
        let d = i j (n / 10) (tenth (suc j) n h) in
        omega (arith, length-append (last_digits k (n / 10)) ((byte "0" + n % 10) ∷ []))

-- A number below a power of ten has at most so many digits.
pub decimal_most : (j n : ℕ) → n < 10 ^ suc j → length (decimal_text n) ≤ suc j
unfolding decimal_text
decimal_most j n h = digits_most 20 j n h

last_digits_few : (k n : ℕ) → length (last_digits k n) ≤ k
unfolding last_digits
last_digits_few zero n = omega arith
last_digits_few (suc k) n = go (dec_lt n 10) (last_digits_few k (n / 10))
  where
    go : Dec (n < 10) → length (last_digits k (n / 10)) ≤ k → length (last_digits (suc k) n) ≤ suc k
    go (yes l) h = rw (digits_one k n l) (omega arith)
    go (no l) h = rw (digits_then k n (omega arith)) (omega (arith, length-append (last_digits k (n / 10)) ((byte "0" + n % 10) ∷ [])))

-- No number has more than twenty.
pub decimal_few : (n : ℕ) → length (decimal_text n) ≤ 20
unfolding decimal_text
decimal_few n = last_digits_few 20 n

-- Each has at least one.
pub decimal_some : (n : ℕ) → 1 ≤ length (decimal_text n)
unfolding decimal_text
decimal_some n = go (dec_lt n 10)
  where
    go : Dec (n < 10) → 1 ≤ length (last_digits 20 n)
    go (yes l) = rw (digits_one 19 n l) (omega arith)
    go (no l) = rw (digits_then 19 n (omega arith)) (omega (arith, length-append (last_digits 19 (n / 10)) ((byte "0" + n % 10) ∷ [])))

-- A number below 10,000 has as many as its size tells.
pub one_digit : (n : ℕ) → n < 10 → length (decimal_text n) ≡ 1
one_digit n h = ap length (decimal_one n h)

pub two_digits : (n : ℕ) → 10 ≤ n → n < 100 → length (decimal_text n) ≡ 2
two_digits n l h = omega (arith, decimal_longer n l (omega arith), one_digit (n / 10) (omega arith))

pub three_digits : (n : ℕ) → 100 ≤ n → n < 1000 → length (decimal_text n) ≡ 3
three_digits n l h = omega (arith, decimal_longer n (omega arith) (omega arith), two_digits (n / 10) (omega arith) (omega arith))

pub four_digits : (n : ℕ) → 1000 ≤ n → n < 10000 → length (decimal_text n) ≡ 4
four_digits n l h = omega (arith, decimal_longer n (omega arith) (omega arith), three_digits (n / 10) (omega arith) (omega arith))
