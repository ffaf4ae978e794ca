-- `starts_past` meets its contract. The invariant: the bytes of `w` stand at `at` exactly if those from `i` on stand at `at + i`.
-- Assumes nothing.
use mathlib.Core.Path.{◌≡◌}
use Prim.Native.Nat.{◌+◌}
use lib.ListN.{drop}
use Rattle.read_bytes.specs.Bytes.{starts}
use Rattle.read_bytes.proofs.bytes.starts_past.Given as goal

abbrev pub invariant-loop-i : goal.invariant-loop-i
invariant-loop-i l = starts l.s l.at l.w ≡ starts l.s (l.at + l.i) (drop l.i l.w)
