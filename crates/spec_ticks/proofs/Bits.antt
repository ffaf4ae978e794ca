-- The bits of a word: and, or, masks, and that a word is its bits.
-- Assumes nothing. No law fixes the width of a word.
use mathlib.Core.Path.{◌≡◌, sym, ap, ◌∙◌, subst}
use mathlib.Core.Logic.{◌⊎◌, inl, inr, ⊎_elim}
use Prim.Native.Nat.{ℕ, zero, suc, ◌+◌, ◌-◌, ◌/◌, ◌%◌, ◌^◌, ◌≤◌, ◌<◌, suc-le-suc, min, max}
use native.Mathlib.Nat.{mod-lt, zero-lt-suc, div-eq_of_lt, div-one, lt_of_lt_of_le}
use native.Mathlib.Numerals.{add-one, one-add}
use native.Mathlib.Decide.{dec_lt}
use native.Mathlib.Omega.{arith}
use lib.Arith.{digits_mod, lt-one}
use lib.Bits.{bit_and, bit_or, and_shr, or_shr, and_step, or_step, or_add_and, and_le_r}
use lib.Pow.{pow_mono, shr-shr, shr_lt, field, mod-mod-pow, ones_split, high, ones_lt}
use Rattle.spec_ticks.specs.Ticks.{bit, Has}

pub lt_or_ge : (m n : ℕ) → (m < n) ⊎ (n ≤ m)
lt_or_ge m n = go (dec_lt m n)
  where
    go : Dec (m < n) → (m < n) ⊎ (n ≤ m)
    go (yes h) = inl h
    go (no f) = inr (omega arith)

pub bit_lt : (w t : ℕ) → bit w t < 2
unfolding bit
bit_lt w t = mod-lt (w / 2 ^ t) (zero-lt-suc 1)

-- two bits are one where each is set if the other is
pub bit_same : (a b : ℕ) → a < 2 → b < 2 → (a ≡ 1 → b ≡ 1) → (b ≡ 1 → a ≡ 1) → a ≡ b
bit_same a b ha hb f g =
    ⊎_elim (λ l. ⊎_elim (λ m. omega arith) (λ m. omega (arith, g (omega arith))) (lt_or_ge b 1)) (λ l. omega (arith, f (omega arith))) (lt_or_ge a 1)

pub bit_zero : (w : ℕ) → bit w 0 ≡ w % 2
unfolding bit
bit_zero w = ap (λ (x : ℕ). x % 2) (div-one w)

-- the bits of a word shifted down
pub bit_shr : (a k t : ℕ) → bit (a / 2 ^ k) t ≡ bit a (k + t)
unfolding bit
bit_shr a k t = ap (λ (x : ℕ). x % 2) (shr-shr a k t)

pub bit_suc : (w t : ℕ) → bit w (suc t) ≡ bit (w / 2) t
bit_suc w t = ap (bit w) (sym (one-add t)) ∙ sym (bit_shr w 1 t)

-- ---- and, or

pub bit_and_lem : (a b t : ℕ) → bit (bit_and a b) t ≡ min (bit a t) (bit b t)
unfolding bit
bit_and_lem a b t =
    ap (λ (x : ℕ). x % 2) (and_shr a b t) ∙ ap (λ (x : ℕ). x % 2) (and_step (a / 2 ^ t) (b / 2 ^ t))
    ∙ digits_mod (bit_and (a / 2 ^ t / 2) (b / 2 ^ t / 2)) (omega (arith, mod-lt (a / 2 ^ t) (zero-lt-suc 1)))

pub bit_or_lem : (a b t : ℕ) → bit (bit_or a b) t ≡ max (bit a t) (bit b t)
unfolding bit
bit_or_lem a b t =
    ap (λ (x : ℕ). x % 2) (or_shr a b t) ∙ ap (λ (x : ℕ). x % 2) (or_step (a / 2 ^ t) (b / 2 ^ t))
    ∙ digits_mod (bit_or (a / 2 ^ t / 2) (b / 2 ^ t / 2))
    (omega (arith, mod-lt (a / 2 ^ t) (zero-lt-suc 1), mod-lt (b / 2 ^ t) (zero-lt-suc 1)))

pub and_in : (a b t : ℕ) → Has a t → Has b t → Has (bit_and a b) t
and_in a b t x y = omega (arith, bit_and_lem a b t)

pub and_out : (a b t : ℕ) → Has (bit_and a b) t → Has a t × Has b t
and_out a b t h = (omega (arith, bit_and_lem a b t, bit_lt a t), omega (arith, bit_and_lem a b t, bit_lt b t))

pub or_left : (a b t : ℕ) → Has a t → Has (bit_or a b) t
or_left a b t h = omega (arith, bit_or_lem a b t, bit_lt b t)

pub or_right : (a b t : ℕ) → Has b t → Has (bit_or a b) t
or_right a b t h = omega (arith, bit_or_lem a b t, bit_lt a t)

pub or_out : (a b t : ℕ) → Has (bit_or a b) t → Has a t ⊎ Has b t
or_out a b t h =
    ⊎_elim (λ l. inl (omega (arith, bit_or_lem a b t))) (λ l. inr (omega (arith, bit_or_lem a b t, bit_lt b t))) (lt_or_ge (bit b t) 1)

-- a word with more ticks is no smaller a number
pub or_ge : (a b : ℕ) → a ≤ bit_or a b
or_ge a b = omega (arith, or_add_and a b, and_le_r a b)

-- ---- where a word's bits end

pub bit_past : (a n t : ℕ) → a < 2 ^ n → n ≤ t → bit a t ≡ 0
unfolding bit
bit_past a n t h l = ap (λ (x : ℕ). x % 2) (div-eq_of_lt (lt_of_lt_of_le h (pow_mono l)))

pub has_below : (a n t : ℕ) → a < 2 ^ n → Has a t → t < n
has_below a n t h e = ⊎_elim (λ l. l) (λ l. absurd (omega (arith, bit_past a n t h l))) (lt_or_ge t n)

pub no_ticks : (t : ℕ) → bit 0 t ≡ 0
no_ticks t = bit_past 0 0 t (omega arith) (omega arith)

-- the n low bits are kept
pub bit_low : (a n t : ℕ) → t < n → bit (a % 2 ^ n) t ≡ bit a t
unfolding bit
bit_low a n t h =
    let j = n - suc t in
    let e : n ≡ suc j + t = omega arith in
    ap (λ (x : ℕ). a % 2 ^ x / 2 ^ t % 2) e
    ∙ ap (λ (x : ℕ). x % 2) (field a (suc j) t)
    ∙ ap (λ (x : ℕ). a / 2 ^ t % 2 ^ x % 2) (sym (add-one j))
    ∙ mod-mod-pow (a / 2 ^ t) j 1

-- the word that holds the ticks below n
pub bit_mask : (n t : ℕ) → t < n → bit (2 ^ n - 1) t ≡ 1
unfolding bit
bit_mask n t h =
    let j = n - suc t in
    let e : n ≡ suc j + t = omega arith in
    ap (λ (x : ℕ). (2 ^ x - 1) / 2 ^ t % 2) e
    ∙ ap (λ (x : ℕ). x / 2 ^ t % 2) (ones_split (suc j) t)
    ∙ ap (λ (x : ℕ). x % 2) (high (2 ^ suc j - 1) t (ones_lt t))
    ∙ ones_odd j
  where
    ones_odd : (j : ℕ) → (2 ^ suc j - 1) % 2 ≡ 1
    ones_odd j = ap (λ (x : ℕ). (2 ^ x - 1) % 2) (sym (add-one j)) ∙ ap (λ (x : ℕ). x % 2) (ones_split j 1) ∙ digits_mod (2 ^ j - 1) (omega arith)

-- ---- a word is its bits

pub bit_ext : (n a b : ℕ) → a < 2 ^ n → b < 2 ^ n → ((t : ℕ) → t < n → bit a t ≡ bit b t) → a ≡ b
bit_ext zero a b ha hb e = lt-one ha ∙ sym (lt-one hb)
bit_ext (suc n) a b ha hb e =
    let q : a / 2 ≡ b / 2 = bit_ext n (a / 2) (b / 2) (half ha) (half hb) (λ t h. sym (bit_suc a t) ∙ e (suc t) (suc-le-suc h) ∙ bit_suc b t) in
    let r : a % 2 ≡ b % 2 = sym (bit_zero a) ∙ e 0 (zero-lt-suc n) ∙ bit_zero b in
    omega arith
  where
    half : {x : ℕ} → x < 2 ^ suc n → x / 2 < 2 ^ n
    half {x} h = shr_lt n 1 (subst (λ (y : ℕ). x < 2 ^ y) (sym (add-one n)) h)
