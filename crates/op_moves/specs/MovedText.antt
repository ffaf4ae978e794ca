-- The text that a move makes of spans noted as numbers, and what it leaves in the lent buffer.
-- Assumes nothing. `spans` tells which move, `names` are the declared names in sheet order, `a` has the numbers, O is the buffer before and O' after.
use Rattle.std.specs.Prelude.{◌≡◌, Bool, true, false, List, [], ◌∷◌, ◌++◌, map, ◌⊎◌, ℕ, ◌+◌, ◌*◌, ◌<◌, ◌≤◌, length, drop, get_or}
use Rattle.spec_limits.specs.Limits.{most_bytes, most_ticks, most_signals, most_name_bytes}
use Rattle.spec_tilco.specs.Lists.{All}
use Rattle.read_reading.specs.Spans.{Span, span, marks_of_all}
use Rattle.read_readings.specs.SpanNumbers.{row_spans, span_of}
use Rattle.open_sheet.specs.Results.{Result, accepted, refused}
use Rattle.write_readings.specs.EntryTexts.{entries_text}
use Rattle.spec_moves.specs.InOrder.{Shaped, MovedTo}
use Rattle.join_spans.specs.Joining.{singles, move_to}
use Rattle.op_moves.specs.Measures.{Measures}

-- The entries of a joined span: itself, or its readings.
abbrev pub run_entries : Bool → Span → List Span
run_entries true e = e ∷ []
run_entries false e = singles e

-- The text of ascending numbers.
abbrev pub moved_text : Bool → List (List ℕ) → List ℕ → List ℕ
moved_text spans names a = entries_text spans names (move_to spans (map span_of a))

-- The entries of a span can be written: its signal has a name, which is short, and its ticks are those of some window.
pub record Writable (names : List (List ℕ)) (e : Span) : Type 0 where
  pub signal : e.signal < length names
  pub short : All (λ w. length w ≤ most_name_bytes) names
  pub start : e.first < most_ticks
  pub ticks : e.last < most_ticks

-- From b on, the readings of any span with these ticks, and with a name of so many bytes, end at u; or they end past the limit, and u is past it too.
abbrev pub SinglesLong : ℕ → ℕ → ℕ → ℕ → ℕ → Type 0
SinglesLong name first last b u =
    (names : List (List ℕ)) (x : ℕ) (v : Bool) → length (get_or names x []) ≡ name → Measures most_bytes (b + length (entries_text false names (singles (span x v first last)))) u

-- The numbers' spans can be written: each has a signal with a name, and a tick at least.
pub record CanWrite (names : List (List ℕ)) (a : List ℕ) : Type 0 where
  pub few : length names ≤ most_signals
  pub rows : All (λ w. w < 2 * row_spans * length names) a
  pub shaped : All (Shaped true) (map span_of a)
  pub short : All (λ w. length w ≤ most_name_bytes) names

-- "Last 20, also for output over 32,768 bytes", or the text's length, with the text in the buffer's first places.
pub data WritesMoved (spans : Bool) (names : List (List ℕ)) (a O O' : List ℕ) : Result ℕ → Type 0 where
  no_room : (es : List Span) → MovedTo spans (marks_of_all (map span_of a)) es → (most_bytes < length (entries_text spans names es)) ⊎ (length O < length (entries_text spans names es)) → O' ≡ O
      → WritesMoved spans names a O O' (refused 20 0)
  written : (es : List Span) → MovedTo spans (marks_of_all (map span_of a)) es → length (entries_text spans names es) ≤ most_bytes → length (entries_text spans names es) ≤ length O
      → O' ≡ entries_text spans names es ++ drop (length (entries_text spans names es)) O → WritesMoved spans names a O O' (accepted (length (entries_text spans names es)))
