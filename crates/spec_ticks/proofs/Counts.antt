-- How many ticks a word holds, and which is the first.
-- Assumes nothing. No law fixes the width of a word.
use mathlib.Core.Path.{◌≡◌, refl, sym, ap, ap₂, ◌∙◌, subst}
use Prim.Native.Nat.{ℕ, zero, suc, ◌+◌, ◌/◌, ◌%◌, ◌^◌, ◌≤◌, ◌<◌}
use native.Mathlib.Nat.{mod-lt, zero-lt-suc, add_comm, mod-one, mod-eq_of_lt, two-pow-succ}
use native.Mathlib.Numerals.{add-one, one-add}
use native.Mathlib.Omega.{arith}
use lib.Count.{ones, ones_in, ones_cat, ones_step, count_trailing_zeros, under}
use lib.Pow.{mod-pow-add, shr_lt, pow_pos}
use Rattle.spec_ticks.specs.Ticks.{bit, Has}
use Rattle.spec_ticks.proofs.Bits.{bit_zero, bit_suc}

-- The ticks of w below n, counted one by one.
unfoldable pub ticks_below : ℕ → ℕ → ℕ
ticks_below zero w = 0
ticks_below (suc n) w = ticks_below n w + bit w n

ones_digit : (d : ℕ) → d < 2 → ones d ≡ d
unfolding ones ones_in
ones_digit zero l = refl
ones_digit (suc zero) l = refl
ones_digit (suc (suc d)) l = absurd (omega arith)

ones_low : (n w : ℕ) → ones (w % 2 ^ n) ≡ ticks_below n w
unfolding ticks_below bit
ones_low zero w = ap ones (mod-one w) ∙ ones_digit 0 (zero-lt-suc 1)
ones_low (suc n) w =
    ap (λ (x : ℕ). ones (w % 2 ^ x)) (sym (one-add n)) ∙ ap ones (mod-pow-add w 1 n)
    ∙ ones_cat n (w / 2 ^ n % 2) (w % 2 ^ n) (mod-lt w (pow_pos n))
    ∙ add_comm (ones (w / 2 ^ n % 2)) (ones (w % 2 ^ n))
    ∙ ap₂ (λ (x y : ℕ). x + y) (ones_low n w) (ones_digit (w / 2 ^ n % 2) (mod-lt (w / 2 ^ n) (zero-lt-suc 1)))

-- A word's ones are its ticks.
pub ones_are_ticks : (n w : ℕ) → w < 2 ^ n → ones w ≡ ticks_below n w
ones_are_ticks n w h = ap ones (sym (mod-eq_of_lt h)) ∙ ones_low n w

-- A word with more ticks has no fewer ones.
pub ones_grow : (n a b : ℕ) → a < 2 ^ n → ((t : ℕ) → Has a t → Has b t) → ones a ≤ ones b
unfolding ones ones_in
ones_grow zero zero b h f = omega arith
ones_grow zero (suc a) b h f = absurd (omega arith)
ones_grow (suc n) a b h f =
    let low : a % 2 ≤ b % 2 = less (a % 2) (b % 2) (omega arith) (λ e. sym (bit_zero b) ∙ f 0 (bit_zero a ∙ e)) in
    let high : ones (a / 2) ≤ ones (b / 2) = ones_grow n (a / 2) (b / 2) (omega (arith, two-pow-succ n)) (λ t e. sym (bit_suc b t) ∙ f (suc t) (bit_suc a t ∙ e)) in
    omega (arith, ones_step a, ones_step b)
  where
    less : (x y : ℕ) → x < 2 → (x ≡ 1 → y ≡ 1) → x ≤ y
    less zero y l g = omega arith
    less (suc x) y l g = let e : suc x ≡ 1 = omega arith in omega (arith, g e)

-- ---- the first tick

pub first_has : (n w : ℕ) → 0 < w → w < 2 ^ n → Has w (count_trailing_zeros n w)
unfolding count_trailing_zeros
first_has zero w p h = absurd (omega arith)
first_has (suc n) w p h = go (first_has n (w / 2)) (w % 2) refl
  where
    go : (0 < w / 2 → w / 2 < 2 ^ n → Has (w / 2) (count_trailing_zeros n (w / 2))) → (d : ℕ) → w % 2 ≡ d → Has w (under d (count_trailing_zeros n (w / 2)))
    go rest zero e = bit_suc w (count_trailing_zeros n (w / 2)) ∙ rest (omega arith) (shr_lt n 1 (subst (λ (y : ℕ). w < 2 ^ y) (sym (add-one n)) h))
    go rest (suc d) e = bit_zero w ∙ omega (arith, mod-lt w (zero-lt-suc 1))

-- Below the first tick of a word there is none.
pub below_first : (n w t : ℕ) → t < count_trailing_zeros n w → bit w t ≡ 0
unfolding count_trailing_zeros
below_first zero w t l = absurd (omega arith)
below_first (suc n) w t l = go (λ u. below_first n (w / 2) u) (w % 2) refl t l
  where
    go : ((u : ℕ) → u < count_trailing_zeros n (w / 2) → bit (w / 2) u ≡ 0) → (d : ℕ) → w % 2 ≡ d → (t : ℕ) → t < under d (count_trailing_zeros n (w / 2)) → bit w t ≡ 0
    go rest zero e zero l = bit_zero w ∙ e
    go rest zero e (suc t) l = bit_suc w t ∙ rest t (omega arith)
    go rest (suc d) e t l = absurd (omega arith)
