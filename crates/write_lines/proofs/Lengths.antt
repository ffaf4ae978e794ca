-- How long a line is.
-- Assumes nothing.
use mathlib.Core.Path.{◌≡◌}
use mathlib.Core.List.{List, ◌++◌}
use Prim.Native.Nat.{ℕ, ◌+◌, ◌≤◌}
use native.Mathlib.Omega.{arith}
use lib.ListN.{length, length-append}
use Rattle.read_bytes.specs.Bytes.{bytes}
use Rattle.write_bytes.specs.Writes.{decimal_text}
use Rattle.write_bytes.proofs.Decimals.{decimal_few}
use Rattle.write_lines.specs.LineTexts.{line_text, number_text}

pub line_length : (key value : List ℕ) → length (line_text key value) ≡ length key + length value + 1
unfolding line_text
line_length key value = omega (arith, length-append key (value ++ bytes "\n"), length-append value (bytes "\n"))

-- A number has at most twenty digits.
pub number_most : (key : List ℕ) (n : ℕ) → length (number_text key n) ≤ length key + 21
number_most key n = omega (arith, line_length key (decimal_text n), decimal_few n)
