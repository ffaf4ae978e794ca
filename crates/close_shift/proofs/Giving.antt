-- The words of a row and of its child, moved up or down by the code, as what a look's rules give. Assumes nothing.
use mathlib.Core.Path.{◌≡◌, sym, subst₂}
use mathlib.Core.Bool.{Bool, true, false, not}
use mathlib.Core.List.{List}
use mathlib.Core.Logic.{◌↔◌}
use Prim.Native.Nat.{ℕ, ◌*◌, ◌/◌, ◌%◌, ◌^◌, ◌<◌}
use native.Mathlib.Omega.{arith}
use Rattle.spec_tilco.specs.Inference.{mark, Shifted}
use Rattle.spec_tilco.specs.Table.{Stands}
use Rattle.table_words.specs.WordTicks.{Ticks, Reads, Apart}
use Rattle.table_words.proofs.OneWord.{Seen, InWindow, both_ticks, ticks_as, raised, lowered}
use Rattle.close_rules.specs.Settled.{FromChild, FromLook}
use Rattle.close_rules.specs.Effects.{HoldTicks}
use Rattle.close_shift.specs.ShiftedWords.{shifted_word, Beside}

-- As the code made the words.
pub gives_as : (q : ℕ) {U : Bool → ℕ → Type 0} {v w v' w' : ℕ} → (v' ≡ v) × (w' ≡ w) → HoldTicks q U v w → HoldTicks q U v' w'
gives_as q {U} e f = subst₂ (λ (x y : ℕ). HoldTicks q U x y) (sym e.0) (sym e.1) f

-- Words of the ticks U of word p, moved up or down by k into the window's ticks m of word q, where the ticks so far apart are those in R.
module _ (W p q k m : ℕ) (U : Bool → ℕ → Type 0) (R : ℕ → ℕ → Type 0) (window : Ticks q m (λ t. t < W)) where
  abbrev There : Bool → ℕ → Type 0
  There v = InWindow W (Seen p R (U v))

  seen_as : (v : Bool) (A : ℕ → ℕ → Type 0) → ((t s : ℕ) → t / 64 ≡ p → s / 64 ≡ q → A t s ↔ R t s) → (s : ℕ) → s / 64 ≡ q → Seen p A (U v) s ↔ Seen p R (U v) s
  seen_as v A same s e = (λ h. (h.0, h.1, (same h.0 s h.1 e).0 h.2, h.3), λ h. (h.0, h.1, (same h.0 s h.1 e).1 h.2, h.3))

  up_gives : {w w₀ : ℕ} → ((t s : ℕ) → t / 64 ≡ p → s / 64 ≡ q → Apart p q k t s ↔ R t s) → HoldTicks p U w w₀ → HoldTicks q There (shifted_word true m k w) (shifted_word true m k w₀)
  up_gives {w} {w₀} same f = record { this = each true w f.this; other = each false w₀ f.other }
    where
      each : (v : Bool) (w : ℕ) → Ticks p w (U v) → Ticks q (shifted_word true m k w) (There v)
      each v w g =
          both_ticks q m ((w * 2 ^ k) % 2 ^ 64) (λ t. t < W) (Seen p R (U v)) window
          (ticks_as q ((w * 2 ^ k) % 2 ^ 64) (Seen p (Apart p q k) (U v)) (Seen p R (U v)) (seen_as v (Apart p q k) same) (raised p q k w (U v) g))

  down_gives : {w w₀ : ℕ} → w < 2 ^ 64 → w₀ < 2 ^ 64 → ((t s : ℕ) → t / 64 ≡ p → s / 64 ≡ q → Apart q p k s t ↔ R t s) → HoldTicks p U w w₀
      → HoldTicks q There (shifted_word false m k w) (shifted_word false m k w₀)
  down_gives {w} {w₀} fits fits₀ same f = record { this = each true w fits f.this; other = each false w₀ fits₀ f.other }
    where
      each : (v : Bool) (w : ℕ) → w < 2 ^ 64 → Ticks p w (U v) → Ticks q (shifted_word false m k w) (There v)
      each v w small g =
          both_ticks q m (w / 2 ^ k) (λ t. t < W) (Seen p R (U v)) window
          (ticks_as q (w / 2 ^ k) (Seen p (λ t s. Apart q p k s t) (U v)) (Seen p R (U v)) (seen_as v (λ t s. Apart q p k s t) same) (lowered q p k w (U v) small g))

-- The words of row x as they stand in the table T; m are the window's ticks in the other row's word.
module _ (n W : ℕ) (T : List ℕ) (x o p q k m : ℕ) where
  abbrev Is : Bool → ℕ → Type 0
  Is v t = Stands n T (mark x t v)

  -- What a look's word p has by word q of its child x.
  pub from_child : (up : Bool) {w w₀ : ℕ} → Beside up p q o k → Ticks p m (λ t. t < W) → w < 2 ^ 64 → w₀ < 2 ^ 64 → Reads n T q x true w w₀
      → HoldTicks p (FromChild W (Stands n T) o x q) (shifted_word up m k w) (shifted_word up m k w₀)
  from_child true e f a b r =
      up_gives W q p k m Is (λ s t. Shifted t o s) f (λ s t h i. (λ d. omega (arith, e.0, e.1), λ d. omega (arith, e.0, e.1))) (record { this = r.this; other = r.other })
  from_child false e f a b r =
      down_gives W q p k m Is (λ s t. Shifted t o s) f a b (λ s t h i. (λ d. omega (arith, e.0, e.1), λ d. omega (arith, e.0, e.1))) (record { this = r.this; other = r.other })

  -- What word q of a child has by word p of a look x at it.
  pub from_look : (up : Bool) {w w₀ : ℕ} → Beside up p q o k → Ticks q m (λ t. t < W) → w < 2 ^ 64 → w₀ < 2 ^ 64 → Reads n T p x true w w₀
      → HoldTicks q (FromLook W (Stands n T) o x p) (shifted_word (not up) m k w) (shifted_word (not up) m k w₀)
  from_look true e f a b r =
      down_gives W p q k m Is (λ t s. Shifted t o s) f a b (λ t s h i. (λ d. omega (arith, e.0, e.1), λ d. omega (arith, e.0, e.1))) (record { this = r.this; other = r.other })
  from_look false e f a b r =
      up_gives W p q k m Is (λ t s. Shifted t o s) f (λ t s h i. (λ d. omega (arith, e.0, e.1), λ d. omega (arith, e.0, e.1))) (record { this = r.this; other = r.other })
