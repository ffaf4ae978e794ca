-- The ticks of a word from one of its ticks to another, as the code shifts them out of a word of ones.
-- Assumes nothing.
use mathlib.Core.Path.{◌≡◌, sym, subst}
use mathlib.Core.Logic.{⊎_elim}
use Prim.Native.Nat.{ℕ, ◌+◌, ◌-◌, ◌*◌, ◌/◌, ◌%◌, ◌^◌, ◌≤◌, ◌<◌}
use native.Mathlib.Omega.{arith}
use lib.Bits.{bit_and}
use Rattle.spec_ticks.proofs.Bits.{lt_or_ge, bit_mask}
use Rattle.table_words.specs.WordTicks.{Ticks, Apart}
use Rattle.table_words.proofs.OneWord.{both_ticks, ticks_as, Seen, raised, window_last}

-- A word of ones has every tick.
all_ticks : (q : ℕ) (U : ℕ → Type 0) → ((t : ℕ) → t / 64 ≡ q → U t) → Ticks q (2 ^ 64 - 1) U
all_ticks q U f b h = (λ e. f (q * 64 + b) (omega arith), λ e. bit_mask 64 b h)

-- The ones moved up by k have the ticks from the word's tick k on.
ones_up : (first q k : ℕ) → first ≡ q * 64 + k → k < 64 → Ticks q (((2 ^ 64 - 1) * 2 ^ k) % 2 ^ 64) (λ t. first ≤ t)
ones_up first q k e l =
    ticks_as q (((2 ^ 64 - 1) * 2 ^ k) % 2 ^ 64) (Seen q (Apart q q k) Whole) (λ t. first ≤ t)
    (λ t i. (λ s. omega (arith, s.1, s.2), λ h. (t - k, omega arith, omega arith, omega arith)))
    (raised q q k (2 ^ 64 - 1) Whole (all_ticks q Whole (λ t i. i)))
  where
    Whole : ℕ → Type 0
    Whole t = t / 64 ≡ q

-- The ones moved down by k have the ticks up to the word's tick 63 - k.
ones_down : (last q k : ℕ) → last + k ≡ q * 64 + 63 → k < 64 → Ticks q ((2 ^ 64 - 1) / 2 ^ k) (λ t. t ≤ last)
ones_down last q k e l = ⊎_elim some none (lt_or_ge 0 k)
  where
    Moved : ℕ → Type 0
    Moved j = Ticks q ((2 ^ 64 - 1) / 2 ^ j) (λ t. t ≤ last)

    some : 0 < k → Moved k
    some h =
        let z : 64 - (64 - k) ≡ k = omega arith in
        subst Moved z
        (ticks_as q ((2 ^ 64 - 1) / 2 ^ (64 - (64 - k))) (λ t. t < last + 1) (λ t. t ≤ last) (λ t i. (λ h. omega arith, λ h. omega arith))
        (window_last (last + 1) q (64 - k) (omega arith) (omega arith) (omega arith)))

    none : k ≤ 0 → Moved k
    none h =
        let z : 0 ≡ k = omega arith in
        subst Moved z (all_ticks q (λ t. t ≤ last) (λ t i. omega arith))

-- The ticks from the first to the last in the word that has both.
pub span_ticks : (first last q w : ℕ) → first / 64 ≡ q → last / 64 ≡ q
    → w ≡ bit_and (((2 ^ 64 - 1) * 2 ^ (first % 64)) % 2 ^ 64) ((2 ^ 64 - 1) / 2 ^ (63 - last % 64)) → Ticks q w (λ t. (first ≤ t) × (t ≤ last))
span_ticks first last q w d e f =
    subst (λ (v : ℕ). Ticks q v (λ t. (first ≤ t) × (t ≤ last))) (sym f)
    (both_ticks q (((2 ^ 64 - 1) * 2 ^ (first % 64)) % 2 ^ 64) ((2 ^ 64 - 1) / 2 ^ (63 - last % 64)) (λ t. first ≤ t) (λ t. t ≤ last)
    (ones_up first q (first % 64) (omega arith) (omega arith)) (ones_down last q (63 - last % 64) (omega arith) (omega arith)))
