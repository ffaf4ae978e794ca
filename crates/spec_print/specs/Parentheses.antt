-- Parentheses in a text, by their bytes: how many there are, and a text with a pair of them left out (E3).
-- Assumes nothing.
use Rattle.std.specs.Prelude.{List, [], ◌∷◌, ◌++◌, ℕ, suc, eqb}
use Rattle.read_bytes.specs.Bytes.{byte, pick}

-- How many `(` a text has.
unfoldable pub opened : List ℕ → ℕ
opened [] = 0
opened (b ∷ w) = pick (eqb b (byte "(")) (λ _. suc (opened w)) (opened w)

-- The second text is the first without a `(` and a `)` after it.
pub data LeavesPairOut : List ℕ → List ℕ → Type 0 where
  without : (a b c : List ℕ) → LeavesPairOut (a ++ (byte "(" ∷ (b ++ (byte ")" ∷ c)))) (a ++ (b ++ c))
