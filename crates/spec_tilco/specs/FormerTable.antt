-- The table as it was before E9, one word for each row and value; for the theorem that a window up to 64 ticks has the same table. Nothing else reads this.
-- Assumes nothing.
use Rattle.std.specs.Prelude.{◌≡◌, true, false, List, ◌↔◌, ℕ, ◌+◌, ◌*◌, length, get_or}
use Rattle.spec_ticks.specs.Ticks.{Has, Small}
use Rattle.spec_tilco.specs.Formula.{Sheet}
use Rattle.spec_tilco.specs.Inference.{Mark, mark, Marks, ◌or◌}
use Rattle.spec_tilco.specs.Lowering.{row_count_lem}
use Rattle.spec_tilco.specs.Table.{ReadMarks, Leads}

-- "Word 2r holds row r's true marks and word 2r+1 its false marks; bit t (value 2 to the t) is tick t" (01).
abbrev pub FormerStands : List ℕ → Marks
FormerStands T (mark r t true) = Has (get_or T (2 * r) 0) t
FormerStands T (mark r t false) = Has (get_or T (2 * r + 1) 0) t

-- Its length: "twice the row count" (refusal 15).
abbrev pub former_words : Sheet → ℕ
former_words s = 2 * row_count_lem s

-- What an accepted add made of it.
pub record FormerAdded (s : Sheet) (T : List ℕ) (R : List Mark) (U : List ℕ) : Type 0 where
  pub size : length U ≡ length T
  pub small : Small 64 U
  pub exactly : (m : Mark) → FormerStands U m ↔ Leads s (◌or◌ (FormerStands T) (ReadMarks R)) m
