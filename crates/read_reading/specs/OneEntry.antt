-- An entry of a readings text, line by line: a reading of three lines, or a span of four (01, "Readings" and "Numbers of refusal" 11 to 14; E5, 21).
-- Assumes nothing. `names` are the declared names in sheet order, W the window, r the readings text, p a place in it; `spans` tells the text's form.
use Rattle.std.specs.Prelude.{ℕ, ◌+◌, ◌-◌, Bool, true, false, List, length, leb, ltb, eqb, Result}
use Rattle.spec_refusals.specs.Numbers.{Refusal}
use Rattle.read_bytes.specs.Read.{Read, and_then, said}
use Rattle.read_bytes.specs.Read.Read.{got, refused}
use Rattle.read_bytes.specs.Bytes.{bytes, pick}
use Rattle.read_names.specs.Spellings.{spelling_at, find_name}
use Rattle.read_lines.specs.Lines.{ranged_line, name_line}
use Rattle.read_reading.specs.declared.Entry.{Entry}
use Rattle.read_reading.specs.Spans.{Span, span}

-- The line `signal=` with a declared name: the signal's number, and the place after the line. An unknown name is refused at the value.
unfoldable pub known_line : List (List ℕ) → List ℕ → ℕ → Read ℕ
known_line names r p =
    and_then (name_line r p (bytes "signal=") 11 12) (λ v q. pick (ltb (find_name (spelling_at r v) names) (length names)) (λ _. got (find_name (spelling_at r v) names) q) (refused 12 v))

-- The line with a key and a tick of the window: the tick, and the place after the line.
abbrev pub tick_line : ℕ → List ℕ → ℕ → List ℕ → Read ℕ
tick_line W r p key = ranged_line r p key 11 13 0 (W - 1)

-- The key of an entry's first line.
abbrev pub first_key : Bool → List ℕ
first_key false = bytes "at="
first_key true = bytes "from="

-- The line `to=` of a span from the tick f on. "21 when `to` is below `from`, at the `to` value, after 13 on that line."
unfoldable pub to_line : ℕ → List ℕ → ℕ → ℕ → Read ℕ
to_line W r f p = and_then (tick_line W r p (bytes "to=")) (λ l q. pick (leb f l) (λ _. got l q) (refused 21 (p + length (bytes "to="))))

-- The last tick of an entry from the tick f on: a reading has no other, and no line for it.
abbrev pub last_tick : Bool → ℕ → List ℕ → ℕ → ℕ → Read ℕ
last_tick false W r f p = got f p
last_tick true W r f p = to_line W r f p

-- "Three lines a reading, in order: `at=` a number, `signal=` a declared name, `value=` 0 or 1"; "four lines: `from=`, `to=`, `signal=`, `value=`".
unfoldable pub entry : Bool → List (List ℕ) → ℕ → List ℕ → ℕ → Read Span
entry spans names W r p =
    and_then (tick_line W r p (first_key spans)) (λ f i.
    and_then (last_tick spans W r f i) (λ l j.
    and_then (known_line names r j) (λ x k.
    and_then (ranged_line r k (bytes "value=") 11 14 0 1) (λ v q. got (span x (eqb v 1) f l) q))))

-- What the reader's answer says: the span with the place after it, or a refusal.
abbrev pub entry_says : Result Entry Refusal → Read Span
entry_says = said (λ e. got (span e.signal e.value e.first e.last) e.next)
