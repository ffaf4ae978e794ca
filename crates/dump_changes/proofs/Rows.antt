-- The ticks at which one of the first rows changes: of none, and of one row more. Assumes nothing.
use mathlib.Core.Path.{◌≡◌, subst}
use mathlib.Core.List.{List}
use mathlib.Core.Logic.{◌⊎◌, inl, inr, ⊎_elim}
use Prim.Native.Nat.{ℕ, ◌+◌}
use native.Mathlib.Omega.{arith}
use lib.Bits.{bit_or}
use Rattle.spec_ticks.proofs.Bits.{lt_or_ge, no_ticks}
use Rattle.table_words.specs.WordTicks.{Ticks}
use Rattle.table_words.proofs.OneWord.{either_ticks, ticks_as}
use Rattle.dump_changes.specs.WordSigns.{Differs, Changes}

module _ (n : ℕ) (T : List ℕ) (q : ℕ) where
  pub none_change : Ticks q 0 (Changes n T 0)
  none_change b l = (λ e. absurd (omega (arith, no_ticks b)), λ e. absurd (omega (arith, e.1)))

  pub one_more : (r v w : ℕ) → Ticks q v (Changes n T r) → Ticks q w (λ t. Differs n T t r) → Ticks q (bit_or v w) (Changes n T (r + 1))
  one_more r v w f g =
      ticks_as q (bit_or v w) (λ t. Changes n T r t ⊎ Differs n T t r) (Changes n T (r + 1))
      (λ t e. (⊎_elim (λ h. (h.0, omega (arith, h.1), h.2)) (λ h. (r, omega arith, h)), λ h. last t h)) (either_ticks q v w (Changes n T r) (λ t. Differs n T t r) f g)
    where
      last : (t : ℕ) → Changes n T (r + 1) t → Changes n T r t ⊎ Differs n T t r
      last t (x, l, d) = ⊎_elim (λ h. inl (x, h, d)) (λ h. let e : x ≡ r = omega arith in inr (subst (Differs n T t) e d)) (lt_or_ge x r)
