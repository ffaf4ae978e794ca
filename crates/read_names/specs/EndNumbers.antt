-- The number at a name's end (E8).
-- Assumes nothing. w is a name's text.
use Rattle.std.specs.Prelude.{ℕ, List, [], ◌∷◌, Bool, true, false, not, ◌&&◌, ◌||◌, leb, eqb, Option, Some, None}
use Rattle.spec_limits.specs.Limits.{most_end_number}
use Rattle.read_bytes.specs.Bytes.{byte, pick, digit, every}
use Rattle.read_bytes.specs.Numbers.{decimal}

-- The digits at the end: the longest run of them there.
unfoldable pub end_digits : List ℕ → List ℕ
end_digits [] = []
end_digits (b ∷ w) = pick (every digit (b ∷ w)) (λ _. b ∷ w) (end_digits w)

-- "The bytes before that number."
unfoldable pub stem : List ℕ → List ℕ
stem [] = []
stem (b ∷ w) = pick (every digit (b ∷ w)) (λ _. []) (b ∷ stem w)

-- Is there no byte?
abbrev pub none : List ℕ → Bool
none [] = true
none (b ∷ d) = false

-- "An end number has no leading zero unless it is 0 alone, and is at most 9,999": are the digits d one?
unfoldable pub is_end_number : List ℕ → Bool
is_end_number [] = false
is_end_number (b ∷ d) = (none d || not (eqb b (byte "0"))) && leb (decimal 0 (b ∷ d)) most_end_number

-- What the digits d at a name's end say: a number, or that there is none.
unfoldable pub number_of : List ℕ → Option ℕ
number_of d = pick (is_end_number d) (λ _. Some (decimal 0 d)) None

-- "The number at its end, or that there is none."
abbrev pub end_number : List ℕ → Option ℕ
end_number w = number_of (end_digits w)

-- Are there no digits at the end, or are they an end number?
unfoldable pub well_ended : List ℕ → Bool
well_ended w = none (end_digits w) || is_end_number (end_digits w)
