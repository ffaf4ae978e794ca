-- `spelling_end` meets its contract. The invariant: the spelling at `at` ends where that at `i` does. Assumes nothing.
use mathlib.Core.Path.{◌≡◌}
use Rattle.read_names.specs.Spellings.{spelling_end}
use Rattle.read_names.proofs.spelling_end.Given as goal

abbrev pub invariant-loop-i : goal.invariant-loop-i
invariant-loop-i l = spelling_end l.s l.at ≡ spelling_end l.s l.i
