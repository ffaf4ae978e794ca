-- Places in the cases and in a buffer.
-- Assumes nothing.
use mathlib.Core.Path.{◌≡◌, sym}
use mathlib.Core.List.{List}
use Prim.Native.Nat.{ℕ, ◌<◌, ◌≤◌}
use native.Mathlib.Omega.{arith}
use lib.ListN.{length}
use lib.Seq.{length-take-le}
use Rattle.run_parts.specs.Prefixes.{IsPrefixLen}
use Rattle.read_lines.specs.Lines.{in_line, line_end}
use Rattle.read_bytes.proofs.Places.{Reach}
use Rattle.read_bytes.proofs.Runs.{end_reach}

-- A line ends in its text.
pub line_reach : (s : List ℕ) (p e : ℕ) → p < length s → e ≡ line_end s p → Reach s p e
line_reach s p e l d = rw d (end_reach in_line s p (omega arith))

-- The first n bytes of a buffer can be lent.
pub counted : (n : ℕ) (xs : List ℕ) → n ≤ length xs → IsPrefixLen n xs
counted n xs h = (h, sym (length-take-le n xs h))
