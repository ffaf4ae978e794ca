-- The lines of a dump as they are written (E6).
-- Assumes nothing. `names` are the declared names in sheet order.
use mathlib.Core.List.{List, [], ◌∷◌, ◌++◌, map, flatten}
use Rattle.std.specs.Prelude.{ℕ, suc, ◌+◌}
use Rattle.read_bytes.specs.Bytes.{bytes}
use Rattle.write_lines.specs.LineTexts.{number_text}

-- What a dump says line by line after `#0`: a later time, or a signal's sign, which is one of the bytes `0`, `1` and `x`.
pub data Event : Type 0 where
  time : ℕ → Event
  sign : ℕ → ℕ → Event

-- "ID is the byte 33 plus its number."
abbrev pub id_byte : ℕ → ℕ
id_byte x = 33 + x

-- "`#` and the tick"; "each signal's sign and ID".
unfoldable pub event_text : Event → List ℕ
event_text (time t) = number_text (bytes "#") t
event_text (sign x b) = b ∷ id_byte x ∷ bytes "\n"

-- The lines of events, one after the other.
unfoldable pub events_text : List Event → List ℕ
events_text es = flatten (map event_text es)

-- What stands before the name in a signal's line.
unfoldable pub var_key : ℕ → List ℕ
var_key x = bytes "$var wire 1 " ++ (id_byte x ∷ bytes " ")

-- "`$var wire 1 ID NAME $end` for each signal."
unfoldable pub var_text : ℕ → List ℕ → List ℕ
var_text x name = var_key x ++ (name ++ bytes " $end\n")

-- Those of the signals from x on, "in sheet order".
unfoldable pub vars_text : ℕ → List (List ℕ) → List ℕ
vars_text x [] = []
vars_text x (name ∷ names) = var_text x name ++ vars_text (suc x) names

-- The lines that every dump starts with, up to `#0`.
unfoldable pub head_text : List (List ℕ) → List ℕ
head_text names =
    bytes "$timescale 1 s $end\n" ++ (bytes "$scope module sheet $end\n" ++ (vars_text 0 names ++ (bytes "$upscope $end\n" ++ (bytes "$enddefinitions $end\n" ++ bytes "#0\n"))))

-- A dump: these lines, and its events.
unfoldable pub dump_text : List (List ℕ) → List Event → List ℕ
dump_text names es = head_text names ++ events_text es
