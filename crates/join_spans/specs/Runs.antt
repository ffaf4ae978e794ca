-- Spans noted as numbers, joined from an index on. Assumes nothing. `a` has the numbers.
use Rattle.std.specs.Prelude.{◌≡◌, List, ◌∷◌, map, ℕ, ◌/◌, ◌%◌, ◌<◌, ◌≤◌, eqb, length, get_or, drop}
use Rattle.spec_limits.specs.Limits.{most_ticks}
use Rattle.read_reading.specs.Spans.{Span, span}
use Rattle.read_readings.specs.SpanNumbers.{row_spans, span_of}
use Rattle.join_spans.specs.Joining.{merged}

-- A span in the row with this number: twice the signal's, and 1 more for its true marks.
abbrev pub in_row : ℕ → ℕ → ℕ → Span
in_row row f l = span (row / 2) (eqb (row % 2) 1) f l

-- The spans of the numbers from index i on.
abbrev pub spans_from : List ℕ → ℕ → List Span
spans_from a i = map span_of (drop i a)

-- From i on comes the joined span of these ticks in this row, and after it what the numbers from `next` on are joined to.
pub record RunFrom (a : List ℕ) (i row f l next : ℕ) : Type 0 where
  pub comes : merged (spans_from a i) ≡ in_row row f l ∷ merged (spans_from a next)
  pub row_is : row ≡ get_or a i 0 / row_spans
  pub ahead : i < next
  pub inside : next ≤ length a
  pub start : f < most_ticks
  pub tick : l < most_ticks
