-- What an operation that writes a text answers, and what it leaves in the lent buffer.
-- Assumes nothing. R is the text that is to be written, or the refusal; O is the buffer before and O' after.
use Rattle.std.specs.Prelude.{◌≡◌, List, ◌++◌, ℕ, length, drop}
use Rattle.open_sheet.specs.Results.{Result, accepted, refused}

-- Its answer: the text's length.
abbrev pub length_of : Result (List ℕ) → Result ℕ
length_of (accepted t) = accepted (length t)
length_of (refused n p) = refused n p

-- What it leaves of the buffer: the text at its first place, and the rest of it as it was. A refusal keeps every byte.
abbrev pub left_of : Result (List ℕ) → List ℕ → List ℕ
left_of (accepted t) O = t ++ drop (length t) O
left_of (refused n p) O = O

-- What is promised where R is to be written: the answer, and the buffer after it.
pub record Gives (R : Result (List ℕ)) (O O' : List ℕ) (a : Result ℕ) : Type 0 where
  pub answer : a ≡ length_of R
  pub leaves : O' ≡ left_of R O
