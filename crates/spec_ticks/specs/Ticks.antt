-- A word as a set of ticks, and a table of such words (01, "Lowering, row by row": the table's words and bits).
-- Assumes nothing. How many ticks a word holds, and how many words a row has, are parameters throughout.
use Rattle.std.specs.Prelude.{◌≡◌, Bool, true, false, List, ℕ, zero, suc, ◌+◌, ◌*◌, ◌/◌, ◌%◌, ◌^◌, ◌<◌, get_or, replicate}
use Rattle.std.specs.Int.Count.{ones}

-- Bit t of w, 0 or 1.
unfoldable pub bit : ℕ → ℕ → ℕ
bit w t = w / 2 ^ t % 2

-- Tick t is in w.
abbrev pub Has : ℕ → ℕ → Type 0
Has w t = bit w t ≡ 1

-- Tick t is in the n words from place i of the table on, each word of `width` ticks, tick 0 first.
pub record In (width n : ℕ) (T : List ℕ) (i t : ℕ) : Type 0 where
  pub within : t < n * width
  pub set_at : Has (get_or T (i + t / width) 0) (t % width)

-- A row's true marks come before its false marks.
abbrev pub side : Bool → ℕ
side true = 0
side false = 1

-- The block of n words that holds row r's marks of value v.
abbrev pub block : ℕ → Bool → ℕ
block r v = 2 * r + side v

-- Row r has the value v at tick t, in a table of n words for each row and value.
abbrev pub MarkAt : ℕ → ℕ → List ℕ → ℕ → ℕ → Bool → Type 0
MarkAt width n T r t v = In width n T (block r v * n) t

-- Every word has at most `width` bits.
abbrev pub Small : ℕ → List ℕ → Type 0
Small width T = (i : ℕ) → get_or T i 0 < 2 ^ width

-- The ones in the first m words.
unfoldable pub tally : List ℕ → ℕ → ℕ
tally T zero = 0
tally T (suc m) = tally T m + ones (get_or T m 0)

-- The table of m words without a mark.
abbrev pub empty : ℕ → List ℕ
empty m = replicate m 0
