-- Entries noted as numbers in an array: which span a number is, and which spans an array holds.
-- Assumes nothing. The number of a span is last + 4096 * (first + 4096 * (value + 2 * signal)), so numbers in ascending order are spans by signal, value
-- and first tick.
use Rattle.std.specs.Prelude.{◌≡◌, List, map, ℕ, ◌+◌, ◌*◌, ◌/◌, ◌%◌, ◌<◌, ◌≤◌, eqb, length, take, Result, Ok, Err}
use Rattle.spec_limits.specs.Limits.{most_ticks, most_readings}
use Rattle.spec_refusals.specs.Numbers.{fault_number, Refusal}
use Rattle.read_index.specs.Index.{IndexOf}
use Rattle.read_bytes.specs.Read.{Read}
use Rattle.read_bytes.specs.Read.Read.{got, refused}
use Rattle.read_reading.specs.Spans.{Span, span}

-- How many spans a row's marks of one value have numbers for.
abbrev pub row_spans : ℕ
row_spans = most_ticks * most_ticks

-- The span that a number is.
abbrev pub span_of : ℕ → Span
span_of w = span (w / (2 * row_spans)) (eqb (w / row_spans % 2) 1) (w / most_ticks % most_ticks) (w % most_ticks)

-- The spans that the first k numbers of an array are.
unfoldable pub spans_in : List ℕ → ℕ → List Span
spans_in a k = map span_of (take k a)

-- Entries can be noted in the array a: the names are indexed, their window has ticks, its spans have numbers, and the array has room for every entry of
-- a text.
pub record CanNote (s names : List ℕ) (window : ℕ) (a : List ℕ) : Type 0 where
  pub index : IndexOf s names
  pub some : 1 ≤ window
  pub ticks : window ≤ most_ticks
  pub room : most_readings ≤ length a

-- What each answer says of the text, R, where it ends, and the array: its first k numbers are the text's entries, read up to the end, or the text is refused.
pub data EntriesNoted (R : Read (List Span)) (end : ℕ) (a : List ℕ) : Result ℕ Refusal → Type 0 where
  all_noted : (k : ℕ) → k ≤ length a → R ≡ got (spans_in a k) end → EntriesNoted R end a (Ok k)
  refused_at : (r : Refusal) → R ≡ refused (fault_number r.fault) r.place → EntriesNoted R end a (Err r)

-- A table of m words, n for each row and value, has room for the span, which has a tick at least.
pub record SpanRoom (n m : ℕ) (e : Span) : Type 0 where
  pub order : e.first ≤ e.last
  pub ticks : e.last < n * 64
  pub row : 2 * (e.signal + 1) * n ≤ m
