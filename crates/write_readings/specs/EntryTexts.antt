-- The lines of readings and of spans as they are written (01, "Readings"; E5).
-- Assumes nothing. `names` are the declared names in sheet order; `spans` tells the text's form.
use Rattle.std.specs.Prelude.{◌≡◌, Bool, true, false, length, get_or, ℕ}
use mathlib.Core.List.{List, [], ◌++◌, map, flatten}
use Rattle.read_bytes.specs.Bytes.{bytes}
use Rattle.write_lines.specs.LineTexts.{line_text, number_text, one_if}
use Rattle.read_reading.specs.Spans.{Span, span}

-- An entry's last two lines: `signal=` its name, `value=` 0 or 1.
unfoldable pub value_text : List (List ℕ) → Span → List ℕ
value_text names e = line_text (bytes "signal=") (get_or names e.signal []) ++ number_text (bytes "value=") (one_if e.value)

-- An entry's lines: `from=`, `to=`, `signal=`, `value=` for a span; `at=`, `signal=`, `value=` for a reading, whose tick is its first.
unfoldable pub entry_text : Bool → List (List ℕ) → Span → List ℕ
entry_text true names e = number_text (bytes "from=") e.first ++ (number_text (bytes "to=") e.last ++ value_text names e)
entry_text false names e = number_text (bytes "at=") e.first ++ value_text names e

-- The lines of entries, one after the other.
unfoldable pub entries_text : Bool → List (List ℕ) → List Span → List ℕ
entries_text spans names es = flatten (map (entry_text spans names) es)

-- Every entry with these ticks, and a name of so many bytes, has n bytes.
abbrev pub EntryLong : Bool → ℕ → ℕ → ℕ → ℕ → Type 0
EntryLong spans name first last n = (names : List (List ℕ)) (x : ℕ) (v : Bool) → length (get_or names x []) ≡ name → n ≡ length (entry_text spans names (span x v first last))
