-- The tokens of a rule's text (01, "Numbers of refusal"): "names, since, until, whole ends, =>, <=> and the other signs one by one, each the
-- longest that fits".
-- Assumes nothing. A token is the text of its bytes.
use Rattle.std.specs.Prelude.{◌≡◌, Bool, true, ℕ, ◌+◌, ◌-◌, ◌≤◌, length}
use mathlib.Core.List.{List, [], ◌∷◌, Memᴰ}
use Rattle.read_bytes.specs.Bytes.{byte, bytes, letter, digit, name_byte, starts}
use Rattle.read_bytes.specs.Numbers.{decimal}
use Rattle.spec_tilco.specs.Lists.{All}
use Rattle.read_interval.specs.Interval.{leading, end_zero}

-- Every byte passes the test.
abbrev pub Each : (ℕ → Bool) → List ℕ → Type 0
Each P = All (λ b. P b ≡ true)

-- A letter, then letters or digits: a name of any length, since or until.
pub data Spelling : List ℕ → Type 0 where
  word : {b : ℕ} {w : List ℕ} → letter b ≡ true → Each name_byte w → Spelling (b ∷ w)

-- "One to four digits, the first not 0", and their number.
pub data Numeral : List ℕ → ℕ → Type 0 where
  numeral : {b : ℕ} {w : List ℕ} → leading b ≡ true → Each digit w → length w ≤ 3 → Numeral (b ∷ w) (decimal 0 (b ∷ w))

-- "An end is `0`, or an optional `-` and one to four digits, the first not 0": its number with 10,000 added.
pub data End : List ℕ → ℕ → Type 0 where
  nought : End (bytes "0") end_zero
  plus : {w : List ℕ} {v : ℕ} → Numeral w v → End w (end_zero + v)
  minus : {w : List ℕ} {v : ℕ} → Numeral w v → End (byte "-" ∷ w) (end_zero - v)

-- "=>, <=> and the other signs one by one."
abbrev pub signs : List (List ℕ)
signs =
    bytes "=>" ∷ bytes "<=>" ∷ bytes "!" ∷ bytes "&" ∷ bytes "|" ∷ bytes "@" ∷ bytes "?" ∷ bytes "(" ∷ bytes ")" ∷ bytes "[" ∷ bytes "]"
    ∷ bytes "," ∷ []

pub data Token : List ℕ → Type 0 where
  word : {w : List ℕ} → Spelling w → Token w
  end : {w : List ℕ} {v : ℕ} → End w v → Token w
  sign : {w : List ℕ} → Memᴰ w signs → Token w

-- The token at p of s: w stands there, and no longer token does.
pub record TokenAt (s : List ℕ) (p : ℕ) (w : List ℕ) : Type 0 where
  pub token : Token w
  pub stands : starts s p w ≡ true
  pub longest : (v : List ℕ) → Token v → starts s p v ≡ true → length v ≤ length w

-- The tokens of s from p to q.
pub data Tokens (s : List ℕ) (q : ℕ) : ℕ → List (List ℕ) → Type 0 where
  none : Tokens s q q []
  next : {p : ℕ} {w : List ℕ} {ws : List (List ℕ)} → TokenAt s p w → Tokens s q (p + length w) ws → Tokens s q p (w ∷ ws)
