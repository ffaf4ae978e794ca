-- The bits of a word shifted up, with no width.
-- Assumes nothing. No law fixes the width of a word.
use mathlib.Core.Path.{◌≡◌, sym, ap, ◌∙◌}
use mathlib.Core.Logic.{⊎_elim}
use Prim.Native.Nat.{ℕ, suc, ◌+◌, ◌-◌, ◌*◌, ◌/◌, ◌%◌, ◌^◌, ◌≤◌, ◌<◌}
use native.Mathlib.Nat.{mul_assoc, one-mul, div_self}
use native.Mathlib.Omega.{arith}
use lib.Bits.{shifted_even}
use lib.Pow.{pow-add, shr-shr, shl-shr, pow_pos}
use Rattle.spec_ticks.specs.Ticks.{bit, Has}
use Rattle.spec_ticks.proofs.Bits.{lt_or_ge, has_below}

pub bit_up : (a k t : ℕ) → bit (a * 2 ^ k) (k + t) ≡ bit a t
unfolding bit
bit_up a k t = ap (λ (x : ℕ). x % 2) (sym (shr-shr (a * 2 ^ k) k t) ∙ ap (λ (x : ℕ). x / 2 ^ t) (shl-shr a k))

pub bit_under : (a k t : ℕ) → t < k → bit (a * 2 ^ k) t ≡ 0
unfolding bit
bit_under a k t h =
    let d = k - suc t in
    let e : k ≡ suc d + t = omega arith in
    ap (λ (x : ℕ). a * 2 ^ x / 2 ^ t % 2) e
    ∙ ap (λ (x : ℕ). a * x / 2 ^ t % 2) (pow-add 2 (suc d) t)
    ∙ ap (λ (x : ℕ). x / 2 ^ t % 2) (sym (mul_assoc a (2 ^ suc d) (2 ^ t)))
    ∙ ap (λ (x : ℕ). x % 2) (shl-shr (a * 2 ^ suc d) t)
    ∙ shifted_even a d

-- The word 2 ^ t holds tick t and no other.
pub one_has : (t : ℕ) → Has (2 ^ t) t
unfolding bit
one_has t = ap (λ (x : ℕ). x % 2) (div_self (pow_pos t))

pub one_only : (t s : ℕ) → Has (2 ^ t) s → s ≡ t
one_only t s e = ⊎_elim below above (lt_or_ge s t)
  where
    shifted : (u : ℕ) → bit (2 ^ t) u ≡ bit (1 * 2 ^ t) u
    shifted u = ap (λ (x : ℕ). bit x u) (sym (one-mul (2 ^ t)))

    below : s < t → s ≡ t
    below h = absurd (omega (arith, shifted s, bit_under 1 t s h))

    above : t ≤ s → s ≡ t
    above h =
        let v : s ≡ t + (s - t) = omega arith in
        let b : bit 1 (s - t) ≡ 1 = sym (bit_up 1 t (s - t)) ∙ ap (bit (1 * 2 ^ t)) (sym v) ∙ sym (shifted s) ∙ e in
        let l : s - t < 1 = has_below 1 1 (s - t) (omega arith) b in
        omega arith
