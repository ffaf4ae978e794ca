-- `name_end` meets its contract. The invariant: what is before the first `=` from `at` on ends where that from `i` on does. Assumes nothing.
use mathlib.Core.Path.{◌≡◌}
use Rattle.read_bytes.specs.Bytes.{run_end}
use Rattle.read_captions.specs.Captions.{before_equals}
use Rattle.read_captions.proofs.name_end.Given as goal

abbrev pub invariant-loop-i : goal.invariant-loop-i
invariant-loop-i l = run_end before_equals l.c l.at ≡ run_end before_equals l.c l.i
