-- How many words a row and a table have at the most. Assumes nothing. Each has a constant of the same number in src/lib.rt, for the code.
use Rattle.std.specs.Prelude.{ℕ, ◌+◌, ◌*◌, ◌/◌}
use Rattle.spec_limits.specs.Limits.{most_ticks, most_rows}

-- The words that a row has for each value in the widest window.
abbrev pub most_words : ℕ
most_words = (most_ticks + 63) / 64

-- The words of a table with the most rows and the widest window.
abbrev pub most_table_words : ℕ
most_table_words = 2 * most_rows * most_words
