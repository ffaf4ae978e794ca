-- Demand 1, as far as it is about definitions: what ask answers is determined by the marks.
-- Assumes nothing.
use mathlib.Core.Path.{◌≡◌, refl}
use mathlib.Core.Bool.{true, false}
use Prim.Native.Nat.{ℕ}
use Rattle.spec_tilco.specs.Inference.{mark, Marks, Clash}
use Rattle.spec_tilco.specs.Table.{Answer, Asked, clashes, holds, fails, neither}

module _ (S : Marks) (x t : ℕ) where
  both : S (mark x t true) → S (mark x t false) → Clash S
  both i j = record { row = x; tick = t; holds = i; fails = j }

  -- Two answers allowed for one cell coincide.
  pub asked_one : {a b : Answer} → Asked S x t a → Asked S x t b → a ≡ b
  asked_one (clashes c) (clashes d) = refl
  asked_one (clashes c) (holds p i) = absurd (p c)
  asked_one (clashes c) (fails p i) = absurd (p c)
  asked_one (clashes c) (neither p i j) = absurd (p c)
  asked_one (holds p i) (clashes c) = absurd (p c)
  asked_one (holds p i) (holds q j) = refl
  asked_one (holds p i) (fails q j) = absurd (p (both i j))
  asked_one (holds p i) (neither q j k) = absurd (j i)
  asked_one (fails p i) (clashes c) = absurd (p c)
  asked_one (fails p i) (holds q j) = absurd (p (both j i))
  asked_one (fails p i) (fails q j) = refl
  asked_one (fails p i) (neither q j k) = absurd (k i)
  asked_one (neither p i j) (clashes c) = absurd (p c)
  asked_one (neither p i j) (holds q k) = absurd (i k)
  asked_one (neither p i j) (fails q k) = absurd (j k)
  asked_one (neither p i j) (neither q k l) = refl
