-- A rule that stands in the arena is lowered as the sheet spells it: its own formula, then the defining rules of its hidden signals.
-- Assumes nothing.
use mathlib.Core.Path.{◌≡◌, refl, ap, ap₂, ◌∙◌}
use mathlib.Core.List.{List, ◌∷◌}
use Prim.Native.Nat.{ℕ, suc, ◌+◌}
use native.Mathlib.Omega.{arith}
use lib.ListN.{length, length-append}
use Rattle.spec_tilco.specs.Formula.{Written, Formula, hiddens, definings, spelled}
use Rattle.read_arena.specs.NodeRules.{form_at, definings_at, Held}

-- One defining rule for each hidden signal.
pub definings_length : (x : ℕ) (w : Written) → length (definings x w) ≡ hiddens w
definings_length x (Written.name y) = refl
definings_length x (Written.neg f) = definings_length x f
definings_length x (Written.pair o f g) =
    omega (arith, length-append (definings x f) (definings (x + hiddens f) g), definings_length x f, definings_length (x + hiddens f) g)
definings_length x (Written.time u lo n f) = definings_length x f
definings_length x (Written.keep b f g) =
    omega (arith, length-append (definings (suc x) f) (definings (suc x + hiddens f) g), definings_length (suc x) f, definings_length (suc x + hiddens f) g)

module _ {a : List ℕ} {x n : ℕ} {w : Written} (h : Held a x n w) where
  -- So many tops follow the rule's own.
  pub held_definings : length (definings_at a n) ≡ hiddens w
  held_definings = ap length h.definings ∙ definings_length x w

  -- What `lower_whole_rule` lowers is the rule as the sheet spells it.
  pub held_spelled : form_at a n ∷ definings_at a n ≡ spelled w x
  held_spelled = ap₂ (λ (f : Formula) (fs : List Formula). f ∷ fs) h.form h.definings
