-- Entries as a move writes them: spans merged and sorted, or single readings, each once, in the same order (E5).
-- Assumes nothing. `spans` tells which of the two.
use Rattle.std.specs.Prelude.{◌≡◌, Bool, true, false, List, [], ◌∷◌, ◌⊎◌, ◌↔◌, ℕ, ◌+◌, ◌*◌, ◌<◌, ◌≤◌}
use Rattle.spec_tilco.specs.Inference.{Mark}
use Rattle.spec_tilco.specs.Lists.{All}
use Rattle.spec_tilco.specs.Table.{ReadMarks}
use Rattle.write_lines.specs.LineTexts.{one_if}
use Rattle.read_reading.specs.Spans.{Span, marks_of_all}

-- "Sorting by signal number, value", value 0 first: where the row of an entry's marks stands in that order.
abbrev pub rank : Span → ℕ
rank e = 2 * e.signal + one_if e.value

-- "Then first tick": a comes before b, in an earlier row, or in the same row with at least `gap` ticks between them.
abbrev pub Before : ℕ → Span → Span → Type 0
Before gap a b = (rank a < rank b) ⊎ ((rank a ≡ rank b) × (a.last + gap < b.first))

-- Each entry comes before every later one.
unfoldable pub Sorted : ℕ → List Span → Type 0
Sorted gap [] = Unit {0}
Sorted gap (e ∷ es) = All (Before gap e) es × Sorted gap es

-- A span has a tick at least, and a reading just one.
abbrev pub Shaped : Bool → Span → Type 0
Shaped true e = e.first ≤ e.last
Shaped false e = e.first ≡ e.last

-- "Merging equal, overlapping and touching spans and sorting", or "single readings, each once, in that same order". Spans of one row that were left
-- have a tick between them, so that they do not touch.
pub record InOrder (spans : Bool) (es : List Span) : Type 0 where
  pub shaped : All (Shaped spans) es
  pub sorted : Sorted (one_if spans) es

-- The same marks.
abbrev pub SameMarks : List Mark → List Mark → Type 0
SameMarks ms ns = (m : Mark) → ReadMarks ms m ↔ ReadMarks ns m

-- The entries es are what a move makes of the marks ms.
pub record MovedTo (spans : Bool) (ms : List Mark) (es : List Span) : Type 0 where
  pub in_order : InOrder spans es
  pub same : SameMarks (marks_of_all es) ms
