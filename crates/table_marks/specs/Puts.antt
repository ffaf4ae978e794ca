-- Marks put into a lent table of words. Assumes nothing. n is how many words a row has for each value, T the table before and T' after.
use Rattle.std.specs.Prelude.{◌≡◌, List, ◌↔◌, ℕ, length}
use Rattle.spec_tilco.specs.Inference.{Mark, Marks, ◌or◌}
use Rattle.spec_tilco.specs.Table.{Stands, ReadMarks}

-- The marks R are gained: exactly these stand in T' besides those that stood in T.
pub record AddsMarks (n : ℕ) (R : Marks) (T T' : List ℕ) : Type 0 where
  pub size : length T' ≡ length T
  pub exactly : (m : Mark) → Stands n T' m ↔ (◌or◌ (Stands n T) R) m

-- The marks ms are put into T.
abbrev pub Puts : ℕ → List Mark → List ℕ → List ℕ → Type 0
Puts n ms = AddsMarks n (ReadMarks ms)
