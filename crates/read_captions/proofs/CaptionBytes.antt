-- Which bytes are printable, and which end what stands before a `=`.
-- Assumes nothing.
use mathlib.Core.Path.{◌≡◌, refl}
use mathlib.Core.Bool.{true, false}
use Prim.Native.Nat.{ℕ, ◌<◌, ◌≤◌}
use borrow.Author.Tests.{ne_eqb}
use Rattle.read_bytes.specs.Bytes.{byte}
use Rattle.read_bytes.proofs.Tests.{between_in, between_low, between_high}
use Rattle.read_lines.specs.Lines.{in_line}
use Rattle.read_lines.proofs.KeyedLines.{lf_ends, lf_not}
use Rattle.read_captions.specs.Captions.{printable, before_equals}

module _ (b : ℕ) where
  pub is_printable : byte " " ≤ b → b ≤ byte "~" → printable b ≡ true
  unfolding printable
  is_printable l h = between_in (byte " ") (byte "~") b l h

  pub too_low : b < byte " " → printable b ≡ false
  unfolding printable
  too_low l = between_low (byte " ") (byte "~") b l

  pub too_high : byte "~" < b → printable b ≡ false
  unfolding printable
  too_high h = between_high (byte " ") (byte "~") b h

  pub equals_ends : b ≡ byte "=" → before_equals b ≡ false
  unfolding before_equals in_line
  equals_ends e = rw e refl

  pub line_ends : b ≡ byte "\n" → before_equals b ≡ false
  unfolding before_equals
  line_ends e = rw (lf_ends b e)

  pub goes_on : (b ≡ byte "=" → ⊥) → (b ≡ byte "\n" → ⊥) → before_equals b ≡ true
  unfolding before_equals
  goes_on m n = rw (lf_not b n, ne_eqb b (byte "=") m)
