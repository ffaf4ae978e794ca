-- Words as the bits of ticks: those of two words together, and where a bit is another than at the tick before.
-- Assumes nothing; a word is one below 2 ^ 64.
use mathlib.Core.Path.{◌≡◌, sym, ap, ap₂, ◌∙◌}
use mathlib.Core.Logic.{⊎_elim}
use Prim.Native.Nat.{ℕ, zero, suc, ◌+◌, ◌-◌, ◌*◌, ◌/◌, ◌%◌, ◌^◌, ◌≤◌, ◌<◌, max}
use native.Mathlib.Nat.{mod-lt, zero-lt-suc, mod-eq_of_lt}
use native.Mathlib.Omega.{arith}
use lib.Arith.{digits_mod}
use lib.Bits.{bit_and, bit_or, bit_xor, differ, xor_shr, xor_step, and_mask}
use lib.Pow.{shr_lt}
use Rattle.spec_ticks.specs.Ticks.{bit}
use Rattle.spec_ticks.proofs.Bits.{lt_or_ge, bit_zero, bit_or_lem, bit_past, bit_low}
use Rattle.spec_ticks.proofs.Shifts.{bit_up, bit_under}

-- How far two numbers lie apart.
pub differ_is : (x y : ℕ) → differ x y ≡ (x - y) + (y - x)
differ_is zero y = omega arith
differ_is (suc x) zero = omega arith
differ_is (suc x) (suc y) = omega (arith, differ_is x y)

bit_xor_lem : (a b t : ℕ) → bit (bit_xor a b) t ≡ differ (bit a t) (bit b t)
unfolding bit
bit_xor_lem a b t =
    let u : ℕ = a / 2 ^ t in
    let v : ℕ = b / 2 ^ t in
    ap (λ (x : ℕ). x % 2) (xor_shr a b t ∙ xor_step u v)
    ∙ digits_mod (bit_xor (u / 2) (v / 2)) (omega (arith, differ_is (u % 2) (v % 2), mod-lt u (zero-lt-suc 1), mod-lt v (zero-lt-suc 1)))

-- The word has the bits g of the ticks of word q.
abbrev pub Word : ℕ → ℕ → (ℕ → ℕ) → Type 0
Word q w g = (b : ℕ) → b < 64 → bit w b ≡ g (q * 64 + b)

-- Two words together.
pub either : (q v w : ℕ) (g h : ℕ → ℕ) → Word q v g → Word q w h → Word q (bit_or v w) (λ t. max (g t) (h t))
either q v w g h e f b l = bit_or_lem v w b ∙ ap₂ max (e b l) (f b l)

-- A word moved up by one, with the bit c below; and where it is another than the word.
abbrev under : ℕ → ℕ → ℕ
under w c = bit_or (w * 2 % 2 ^ 64) c

abbrev pub change : ℕ → ℕ → ℕ
change w c = bit_xor w (under w c)

module _ (q w : ℕ) (g : ℕ → ℕ) (is : Word q w g) where
  -- If c is the bit of the tick before the word, the moved word has the bits of the ticks before.
  module _ (c : ℕ) (small : c < 2) (e : c ≡ g (q * 64 - 1)) where
    moved : Word q (under w c) (λ t. g (t - 1))
    moved b l = bit_or_lem (w * 2 % 2 ^ 64) c b ∙ ⊎_elim lowest above (lt_or_ge b 1)
      where
        kept : bit (w * 2 % 2 ^ 64) b ≡ bit (w * 2) b
        kept = bit_low (w * 2) 64 b l

        lowest : b < 1 → max (bit (w * 2 % 2 ^ 64) b) (bit c b) ≡ g (q * 64 + b - 1)
        lowest h =
            let z : b ≡ 0 = omega arith in
            let i : bit c b ≡ c = ap (bit c) z ∙ bit_zero c ∙ mod-eq_of_lt small in
            let j : g (q * 64 - 1) ≡ g (q * 64 + b - 1) = ap g (omega arith) in
            omega (arith, kept, bit_under w 1 b h)

        above : 1 ≤ b → max (bit (w * 2 % 2 ^ 64) b) (bit c b) ≡ g (q * 64 + b - 1)
        above h =
            let z : b ≡ 1 + (b - 1) = omega arith in
            let i : bit (w * 2) b ≡ bit w (b - 1) = ap (bit (w * 2)) z ∙ bit_up w 1 (b - 1) in
            let j : g (q * 64 + (b - 1)) ≡ g (q * 64 + b - 1) = ap g (omega arith) in
            omega (arith, kept, bit_past c 1 b small h, is (b - 1) (omega arith))

    -- Where the bits are others than at the tick before.
    pub changed : Word q (change w c) (λ t. differ (g t) (g (t - 1)))
    changed b l = bit_xor_lem w (under w c) b ∙ ap₂ differ (is b l) (moved b l)

  -- Below the first word it is the word's own lowest bit.
  pub lowest_in : q ≡ 0 → bit_and w 1 ≡ g (q * 64 - 1)
  lowest_in z = and_mask w 1 ∙ sym (bit_zero w) ∙ is 0 (omega arith) ∙ ap g (omega arith)

  -- Below the next word it is the highest bit.
  pub highest_in : (p : ℕ) → p ≡ q + 1 → w < 2 ^ 64 → w / 2 ^ 63 ≡ g (p * 64 - 1)
  unfolding bit
  highest_in p e small = sym (mod-eq_of_lt (shr_lt 1 63 small)) ∙ is 63 (omega arith) ∙ ap g (omega arith)
