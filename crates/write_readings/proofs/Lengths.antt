-- How long an entry's lines are: at least 22 bytes, at most 50, and so few that their places can be counted.
-- Assumes nothing.
use mathlib.Core.Path.{◌≡◌, ap}
use mathlib.Core.Bool.{Bool, true, false}
use mathlib.Core.List.{List, [], ◌++◌}
use Prim.Native.Nat.{ℕ, ◌+◌, ◌^◌, ◌<◌, ◌≤◌}
use native.Mathlib.Omega.{arith}
use lib.ListN.{length, get_or, length-append}
use Rattle.spec_limits.specs.Limits.{most_name_bytes}
use Rattle.read_bytes.specs.Bytes.{bytes}
use Rattle.read_reading.specs.Spans.{Span, span}
use Rattle.write_bytes.specs.Writes.{Counted, decimal_text}
use Rattle.write_bytes.proofs.Decimals.{decimal_one, decimal_some, decimal_most, decimal_few}
use Rattle.write_lines.specs.LineTexts.{line_text, number_text, one_if}
use Rattle.write_lines.proofs.Lengths.{line_length}
use Rattle.write_readings.specs.EntryTexts.{value_text, entry_text, EntryLong}

bit_length : (v : Bool) → length (decimal_text (one_if v)) ≡ 1
bit_length true = ap length (decimal_one 1 (omega arith))
bit_length false = ap length (decimal_one 0 (omega arith))

module _ (names : List (List ℕ)) (e : Span) where
  abbrev name : List ℕ
  name = get_or names e.signal []

  value_length : length (value_text names e) ≡ length name + 16
  unfolding value_text
  value_length =
      let a = line_length (bytes "signal=") name in
      let b = line_length (bytes "value=") (decimal_text (one_if e.value)) in
      omega (arith, length-append (line_text (bytes "signal=") name) (number_text (bytes "value=") (one_if e.value)), bit_length e.value)

  -- A reading has the digits of its tick, its name, and 20 bytes more.
  pub reading_length : length (entry_text false names e) ≡ length (decimal_text e.first) + length name + 20
  unfolding entry_text
  reading_length =
      let a = line_length (bytes "at=") (decimal_text e.first) in
      omega (arith, value_length, length-append (number_text (bytes "at=") e.first) (value_text names e))

  -- A span has the digits of its two ticks, its name, and 26 bytes more.
  pub span_length : length (entry_text true names e) ≡ length (decimal_text e.first) + length (decimal_text e.last) + length name + 26
  unfolding entry_text
  span_length =
      let a = line_length (bytes "from=") (decimal_text e.first) in
      let b = line_length (bytes "to=") (decimal_text e.last) in
      omega (
        arith,
        value_length,
        length-append (number_text (bytes "from=") e.first) (number_text (bytes "to=") e.last ++ value_text names e),
        length-append (number_text (bytes "to=") e.last) (value_text names e),
      )

-- An entry has at least 22 bytes, if its signal has a name.
pub entry_least : (spans : Bool) (names : List (List ℕ)) (e : Span) → 1 ≤ length (get_or names e.signal []) → 22 ≤ length (entry_text spans names e)
entry_least true names e h = omega (arith, span_length names e, decimal_some e.first, decimal_some e.last)
entry_least false names e h = omega (arith, reading_length names e, decimal_some e.first)

-- It has at most 50, with a name and ticks within the limits.
pub entry_most : (spans : Bool) (names : List (List ℕ)) (e : Span) → length (get_or names e.signal []) ≤ most_name_bytes → e.first < 10000 → e.last < 10000 → length (entry_text spans names e) ≤ 50
entry_most true names e h f l = omega (arith, span_length names e, decimal_most 3 e.first f, decimal_most 3 e.last l)
entry_most false names e h f l = omega (arith, reading_length names e, decimal_most 3 e.first f)

-- Its places can be counted wherever those of its name can be, with room to spare: whatever its ticks are.
pub entry_counted : (spans : Bool) (names : List (List ℕ)) (e : Span) {b : ℕ} → b + length (get_or names e.signal []) < 2 ^ 63 → Counted b (entry_text spans names e)
entry_counted true names e h = record { below = omega (arith, span_length names e, decimal_few e.first, decimal_few e.last) }
entry_counted false names e h = record { below = omega (arith, reading_length names e, decimal_few e.first) }

-- So the lengths of its ticks and of its name tell an entry's.
pub span_long : {spans : Bool} {name : ℕ} (first last : ℕ) {a b : ℕ} → spans ≡ true → a ≡ length (decimal_text first) → b ≡ length (decimal_text last) → EntryLong spans name first last (a + b + name + 26)
span_long first last h d g = λ names x v e. rw h (omega (arith, span_length names (span x v first last)))

pub reading_long : {spans : Bool} {name : ℕ} (first last : ℕ) {a : ℕ} → spans ≡ false → a ≡ length (decimal_text first) → EntryLong spans name first last (a + name + 20)
reading_long first last h d = λ names x v e. rw h (omega (arith, reading_length names (span x v first last)))
