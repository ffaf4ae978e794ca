-- The lent table of words: which marks stand in it, its facts, what add makes of it and what ask answers
-- (01, "What it reads and what it says", "Lowering" and "The inference rules").
-- Assumes nothing.
use Rattle.std.specs.Prelude.{◌≡◌, Bool, true, false, ◌↔◌, ℕ, ◌+◌, ◌*◌, ◌/◌, ◌<◌, pos, length}
use mathlib.Core.List.{List, Memᴰ}
use Rattle.spec_ticks.specs.Ticks.{MarkAt, Small, tally}
use Rattle.spec_tilco.specs.Formula.{Sheet}
use Rattle.spec_tilco.specs.Meaning.{History}
use Rattle.spec_tilco.specs.Lowering.{program, row_count_lem}
use Rattle.spec_tilco.specs.Inference.{Mark, mark, Marks, Derives, ◌or◌, Clash}

-- "Each row has the fewest words that cover the window for its true marks, then as many for its false marks" (E9): how many that is.
unfoldable pub words : ℕ → ℕ
words W = (W + 63) / 64

-- The mark stands in a table of n words for each row and value, "tick 0 first" (E9).
abbrev pub Stands : ℕ → List ℕ → Marks
Stands n T (mark r t v) = MarkAt 64 n T r t v

-- The mark stands in the sheet's table.
abbrev pub Standing : Sheet → List ℕ → Marks
Standing s T = Stands (words s.window) T

-- The length of the sheet's table (refusal 15).
abbrev pub table_words : Sheet → ℕ
table_words s = 2 * row_count_lem s * words s.window

-- No mark is at a tick outside the window (refusal 16).
abbrev pub Inside : ℕ → Marks → Type 0
Inside W S = (r t : ℕ) (v : Bool) → S (mark r t v) → t < W

-- "A fact is one mark in a declared signal's row; a clashing cell counts two": the ones in the first k rows' words.
abbrev pub facts : ℕ → ℕ → List ℕ → ℕ
facts n k T = tally T (2 * k * n)

-- The facts of the sheet's table.
abbrev pub facts_of : Sheet → List ℕ → ℕ
facts_of s T = facts (words s.window) s.signals T

-- The marks of a list of readings.
abbrev pub ReadMarks : List Mark → Marks
ReadMarks R m = Memᴰ m R

-- A reading is of a declared signal at a tick of the window (refusals 12 and 13).
abbrev pub InRange : Sheet → Mark → Type 0
InRange s (mark x t v) = (x < s.signals) × (t < s.window)

-- A history agrees with a reading.
abbrev pub Agrees : History → Mark → Type 0
Agrees h (mark x t v) = h x (pos t) ≡ v

-- What the rules lead to from these marks.
abbrev pub Leads : Sheet → Marks → Marks
Leads s = Derives (program s) s.window

-- What an accepted add makes of the table T with the readings R: a table U of the same length in which a mark stands exactly if a finite
-- chain of the rules leads to it from the tops, the readings and what T held.
pub record Added (s : Sheet) (T : List ℕ) (R : List Mark) (U : List ℕ) : Type 0 where
  pub size : length U ≡ length T
  pub small : Small 64 U
  pub exactly : (m : Mark) → Standing s U m ↔ Leads s (◌or◌ (Standing s T) (ReadMarks R)) m

-- What ask may answer.
pub data Answer : Type 0 where
  Unsettled True False Contradiction : Answer

-- "Ask gives contradiction for every cell if any row clashes, else what the cell's own marks say, unsettled if none."
pub data Asked (S : Marks) (x t : ℕ) : Answer → Type 0 where
  clashes : Clash S → Asked S x t Contradiction
  holds : (Clash S → ⊥) → S (mark x t true) → Asked S x t True
  fails : (Clash S → ⊥) → S (mark x t false) → Asked S x t False
  neither : (Clash S → ⊥) → (S (mark x t true) → ⊥) → (S (mark x t false) → ⊥) → Asked S x t Unsettled
