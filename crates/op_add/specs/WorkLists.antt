-- The list of work that add lends to the closing. Assumes nothing.
use Rattle.std.specs.Prelude.{◌≡◌, ℕ, ◌*◌, ◌≤◌}
use Rattle.spec_limits.specs.Limits.{most_rows}
use Rattle.table_marks.specs.Sizes.{most_words}
use Rattle.close_list.specs.Items.{per}

-- A list of m words has a bit for every item of a table of t words, however many of them a row has.
abbrev pub ListFor : ℕ → ℕ → Type 0
ListFor t m = (count n : ℕ) → count ≤ most_rows → n ≤ most_words → t ≡ 2 * count * n → per count * n ≤ m
