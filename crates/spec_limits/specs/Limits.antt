-- Every limit by its name. Those of 01 first, then those of our own buffers. Assumes nothing.
-- Those that the code uses have a constant of the same number in src/lib.rt.
use Rattle.std.specs.Prelude.{ℕ, ◌+◌, ◌*◌}

-- ---- 01's limits

-- "A sheet is at most 32,768 bytes"; readings the same.
abbrev pub most_bytes : ℕ
most_bytes = 32768

-- "Windows grow to 4,096" (E9).
abbrev pub most_ticks : ℕ
most_ticks = 4096

-- "Signals 1 to 64."
abbrev pub most_signals : ℕ
most_signals = 64

-- "Rules 0 to 64."
abbrev pub most_rules : ℕ
most_rules = 64

-- "A name is .. 1 to 16 in all."
abbrev pub most_name_bytes : ℕ
most_name_bytes = 16

-- "An end number .. is at most 9,999" (E8).
abbrev pub most_end_number : ℕ
most_end_number = 9999

-- "A rule has 1 to 256 bytes."
abbrev pub most_rule_bytes : ℕ
most_rule_bytes = 256

-- "At most 32 of `(` and `!` may be open at one place."
abbrev pub most_open : ℕ
most_open = 32

-- "A whole interval has an end outside -63 to 63": refusal 7.
abbrev pub most_end : ℕ
most_end = 63

-- "At most 32 hidden signals."
abbrev pub most_hidden : ℕ
most_hidden = 32

-- "1,024 rows."
abbrev pub most_rows : ℕ
most_rows = 1024

-- "The listing program prints 29, after 9, for a table over 8,192 words" (E9).
abbrev pub most_listed_words : ℕ
most_listed_words = 8192

-- "Up to 64 readings texts run against one sheet" (E1).
abbrev pub most_runs : ℕ
most_runs = 64

-- "Captions of 1 to 40 printable ASCII bytes" (E7).
abbrev pub most_caption_bytes : ℕ
most_caption_bytes = 40

-- ---- our own

-- A rule's formula has at most a node for each of its bytes, of four numbers each.
abbrev pub arena_numbers : ℕ
arena_numbers = 4 * most_rule_bytes

-- An offset is written with so much added: it is never negative, and at most so much.
abbrev pub offset_zero : ℕ
offset_zero = 64

abbrev pub most_offset : ℕ
most_offset = offset_zero + most_end

-- Each rule has a top, and so has each defining rule.
abbrev pub most_tops : ℕ
most_tops = most_rules + most_hidden

-- A reading has at least 22 bytes.
abbrev pub most_readings : ℕ
most_readings = 1489

-- A listing has no more bytes: for each signal its name, a sign a tick and 15 more, and 108 before them.
abbrev pub most_listed : ℕ
most_listed = (most_name_bytes + most_ticks + 15) * most_signals + 108

-- The same of a listing with captions, for each signal its caption or its shorter name.
abbrev pub most_captioned : ℕ
most_captioned = (most_caption_bytes + most_ticks + 15) * most_signals + 108

-- A row's code is kind + kinds * (a + numbers * b): so many kinds, and so many numbers for a.
abbrev pub code_kinds : ℕ
code_kinds = 8

abbrev pub code_numbers : ℕ
code_numbers = 65536
