-- What is read in turn stays in its text.
-- Assumes that each part does.
use mathlib.Core.List.{List, [], ◌∷◌, ◌++◌}
use Prim.Native.Nat.{ℕ, zero, suc, ◌≤◌}
use Rattle.read_bytes.specs.Read.{Read, and_then}
use Rattle.read_bytes.specs.Read.Read.{got, refused}
use Rattle.read_lines.specs.Lines.{in_turn}
use Rattle.read_lines.proofs.Stays.{Stays}
use Rattle.spec_tilco.specs.Lists.{All}
use Rattle.spec_tilco.proofs.Lists.{all_append}

module _ {A : Type 0} (Q : A → Type 0) (L : ℕ) where
  -- each of them is as Q asks
  pub turn_stays : (P : List A → ℕ → Read A) → ((t : List A) (p : ℕ) → p ≤ L → Stays Q L (P t p)) → (n : ℕ) (t : List A) (p : ℕ) → p ≤ L → All Q t → Stays (All Q) L (in_turn P n t p)
  unfolding in_turn
  turn_stays P part zero t p h k = (k, h)
  turn_stays P part (suc n) t p h k = go (P t p) (part t p h) (λ t' p'. turn_stays P part n t' p')
    where
      go : (R : Read A) → Stays Q L R → ((t' : List A) (p' : ℕ) → p' ≤ L → All Q t' → Stays (All Q) L (in_turn P n t' p')) → Stays (All Q) L (and_then R (λ a q. in_turn P n (t ++ (a ∷ [])) q))
      go (got a q) x r = r (t ++ (a ∷ [])) q x.1 (all_append Q t (a ∷ []) k (x.0, tt))
      go (refused m q) x r = x
