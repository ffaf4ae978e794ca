-- The lines of a listing and of readings (01, "The listing program" and "Readings").
-- Assumes nothing.
use Rattle.std.specs.Prelude.{Bool, true, false, List, ◌++◌, ℕ}
use Rattle.read_bytes.specs.Bytes.{bytes}
use Rattle.write_bytes.specs.Writes.{decimal_text}

-- A line: a key, a value, and LF.
unfoldable pub line_text : List ℕ → List ℕ → List ℕ
line_text key value = key ++ (value ++ bytes "\n")

-- The line of a key and a number.
abbrev pub number_text : List ℕ → ℕ → List ℕ
number_text key n = line_text key (decimal_text n)

-- 1 for yes and 0 for no.
abbrev pub one_if : Bool → ℕ
one_if true = 1
one_if false = 0
