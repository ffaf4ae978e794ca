-- A text cut into lines, and what a line may hold (01, "The sheet").
-- Assumes nothing.
use Rattle.std.specs.Prelude.{◌≡◌, true, List, ◌∷◌, ℕ, ◌+◌, ◌≤◌, ◌<◌, length}
use Rattle.spec_limits.specs.Limits.{most_name_bytes}
use Rattle.read_bytes.specs.Bytes.{byte, bytes, peek, digit, starts, InLine}
use Rattle.read_interval.specs.Interval.{leading}
use Rattle.read_bytes.specs.Numbers.{decimal}
use Rattle.read_names.specs.EndNumbers.{well_ended}
use Rattle.spec_grammar.specs.Tokens.{Each}
use Rattle.spec_grammar.specs.Grammar.{Name}

-- The line at p is l: it stands there, has no LF in it, and an LF ends it.
pub record LineAt (s : List ℕ) (p : ℕ) (l : List ℕ) : Type 0 where
  pub stands : starts s p l ≡ true
  pub in_line_lem : InLine l
  pub inside : p + length l < length s
  pub ends : peek s (p + length l) ≡ byte "\n"

-- The place after the line l at p.
abbrev pub after : ℕ → List ℕ → ℕ
after p l = p + length l + 1

-- "Numbers have one to five digits and no leading zero (0 itself is `0`)."
pub data Number : List ℕ → ℕ → Type 0 where
  nought : Number (bytes "0") 0
  some : {b : ℕ} {w : List ℕ} → leading b ≡ true → Each digit w → length w ≤ 4 → Number (b ∷ w) (decimal 0 (b ∷ w))

-- "A name is a lower-case letter and then lower-case letters or digits, 1 to 16 in all." "An end number has no leading zero unless it is 0 alone, and is
-- at most 9,999" (E8).
pub record SignalName (w : List ℕ) : Type 0 where
  pub name : Name w
  pub short : length w ≤ most_name_bytes
  pub ended : well_ended w ≡ true
