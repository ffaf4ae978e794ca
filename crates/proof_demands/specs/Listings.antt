-- What a listing shows, read off its bytes (01, "The listing program").
-- Assumes nothing. l is the listing's text.
use Rattle.std.specs.Prelude.{◌≡◌, Bool, true, false, List, [], ◌∷◌, ◌++◌, ℕ, ◌+◌, eqb, length, get_or}
use Rattle.read_bytes.specs.Bytes.{byte, bytes, pick}

-- A byte before the first line.
abbrev pub on_first : ℕ → List (List ℕ) → List (List ℕ)
on_first b [] = (b ∷ []) ∷ []
on_first b (l ∷ ls) = (b ∷ l) ∷ ls

-- The lines of a text: an LF ends each.
unfoldable pub lines_of : List ℕ → List (List ℕ)
lines_of [] = []
lines_of (b ∷ l) = pick (eqb b (byte "\n")) (λ _. [] ∷ lines_of l) (on_first b (lines_of l))

-- The line of a listing, counted from 0: answer, rows, facts, clash, then a signal's name and its marks for each signal.
abbrev pub line_of : List ℕ → ℕ → List ℕ
line_of l i = get_or (lines_of l) i []

-- The line i of a listing names the signal that is called w.
abbrev pub Names : List ℕ → ℕ → List ℕ → Type 0
Names l i w = line_of l i ≡ bytes "signal=" ++ w

-- A signal's marks stand in the line after its name.
abbrev pub marks_line : ℕ → ℕ
marks_line i = i + 1

-- The sign that is printed at tick t under line i: after `marks=`, one sign a tick.
abbrev pub sign_under : List ℕ → ℕ → ℕ → ℕ
sign_under l i t = get_or (line_of l (marks_line i)) (length (bytes "marks=") + t) 0

-- The sign of a value: `1` or `0`.
abbrev pub shown : Bool → ℕ
shown true = byte "1"
shown false = byte "0"
