-- `line_end` meets its contract. The invariant: the line at `at` ends where that at `i` does, and what is not yet looked at starts there. Assumes nothing.
use mathlib.Core.Path.{◌≡◌}
use Rattle.read_lines.specs.Lines.{line_end}
use Rattle.read_lines.proofs.line_end.Given as goal

abbrev pub invariant-loop-i : goal.invariant-loop-i
invariant-loop-i l = (line_end l.s l.at ≡ line_end l.s l.i) × (l.rest ≡ l.i)
