-- The earliest tick of a set: of the same set said otherwise, and of two sets together. Assumes nothing.
use mathlib.Core.Logic.{◌⊎◌, ⊎_elim}
use Prim.Native.Nat.{ℕ, ◌<◌, ◌≤◌}
use native.Mathlib.Omega.{arith}
use Rattle.spec_figures.specs.Records.{no_tick, Earliest}
use Rattle.spec_figures.specs.Records.Earliest.{earliest, none}

-- The ticks R are the ticks P.
pub earliest_same : {P R : ℕ → Type 0} {a : ℕ} → ((t : ℕ) → P t → R t) → ((t : ℕ) → R t → P t) → Earliest P a → Earliest R a
earliest_same up down (earliest a p f) = earliest a (up a p) (λ u l r. f u l (down u r))
earliest_same up down (none f) = none (λ t r. f t (down t r))

-- The ticks R are the ticks P and the ticks Q, of which the first of P is the earliest.
pub earliest_of : {P Q R : ℕ → Type 0} {a b : ℕ} → ((t : ℕ) → P t → R t) → ((t : ℕ) → R t → P t ⊎ Q t) → ((t : ℕ) → Q t → t < no_tick)
    → Earliest P a → Earliest Q b → a ≤ b → Earliest R a
earliest_of up split low (earliest a p f) (earliest b q g) l = earliest a (up a p) (λ u h r. ⊎_elim (f u h) (g u (omega arith)) (split u r))
earliest_of up split low (earliest a p f) (none g) l = earliest a (up a p) (λ u h r. ⊎_elim (f u h) (g u) (split u r))
earliest_of up split low (none f) (earliest b q g) l = absurd (omega (arith, low b q))
earliest_of up split low (none f) (none g) l = none (λ t r. ⊎_elim (f t) (g t) (split t r))
