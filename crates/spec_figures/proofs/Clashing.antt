-- "A run that clashes counts its whole window in a fourth column and nothing in the other three", and one that does not counts nothing in the fourth.
-- Assumes nothing. S are the marks of the run's closed table, f what ask answers of signal x in the window W.
use mathlib.Core.Path.{◌≡◌, refl}
use Prim.Native.Nat.{ℕ, zero, suc, ◌<◌}
use native.Mathlib.Omega.{arith}
use lib.Dec.{eqb}
use Rattle.spec_tilco.specs.Inference.{Marks, Clash}
use Rattle.spec_tilco.specs.Table.{Answer, Unsettled, True, False, Contradiction, Asked, clashes, holds, fails, neither}
use Rattle.write_lines.specs.LineTexts.{one_if}
use Rattle.list_signals.specs.Signals.{sign_byte, AnswersAt}
use Rattle.spec_figures.specs.Records.{ticks_of, Settles}
use Rattle.spec_figures.proofs.Columns.{ticks_add_up}

-- "A run that clashes counts its whole window in a fourth column and nothing in the other three." And it settles no tick.
pub record ClashCounts (W : ℕ) (f : ℕ → Answer) : Type 0 where
  pub whole : ticks_of Contradiction f W ≡ W
  pub no_true : ticks_of True f W ≡ 0
  pub no_false : ticks_of False f W ≡ 0
  pub no_unsettled : ticks_of Unsettled f W ≡ 0
  pub settles_none : (t : ℕ) → t < W → Settles (f t) → ⊥

-- How one answer counts in the fourth column.
abbrev fourth : Answer → ℕ
fourth a = one_if (eqb (sign_byte a) (sign_byte Contradiction))

module _ {S : Marks} {x t : ℕ} where
  counts_one : Clash S → {a : Answer} → Asked S x t a → fourth a ≡ 1
  counts_one c (clashes d) = refl
  counts_one c (holds f i) = absurd (f c)
  counts_one c (fails f i) = absurd (f c)
  counts_one c (neither f i j) = absurd (f c)

  counts_none : (Clash S → ⊥) → {a : Answer} → Asked S x t a → fourth a ≡ 0
  counts_none n (clashes c) = absurd (n c)
  counts_none n (holds f i) = refl
  counts_none n (fails f i) = refl
  counts_none n (neither f i j) = refl

  settles_not : Clash S → {a : Answer} → Asked S x t a → Settles a → ⊥
  settles_not c (clashes d) s = s
  settles_not c (holds f i) s = f c
  settles_not c (fails f i) s = f c
  settles_not c (neither f i j) s = f c

module _ (S : Marks) (x : ℕ) (f : ℕ → Answer) where
  all_fourth : (W : ℕ) → Clash S → AnswersAt S x W f → ticks_of Contradiction f W ≡ W
  unfolding ticks_of
  all_fourth zero c a = refl
  all_fourth (suc t) c a = omega (arith, counts_one c (a t (omega arith)), all_fourth t c (λ u h. a u (omega arith)))

  -- A run that clashes counts so,
  pub clash_counts : (W : ℕ) → Clash S → AnswersAt S x W f → ClashCounts W f
  clash_counts W c a =
      let w = all_fourth W c a in
      let z = ticks_add_up f W in
      record { whole = w; no_true = omega arith; no_false = omega arith; no_unsettled = omega arith; settles_none = λ t h. settles_not c (a t h) }

  -- and one that does not counts nothing in the fourth column.
  pub no_clash_counts : (W : ℕ) → (Clash S → ⊥) → AnswersAt S x W f → ticks_of Contradiction f W ≡ 0
  unfolding ticks_of
  no_clash_counts zero n a = refl
  no_clash_counts (suc t) n a = omega (arith, counts_none n (a t (omega arith)), no_clash_counts t n (λ u h. a u (omega arith)))
