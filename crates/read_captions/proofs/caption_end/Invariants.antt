-- `caption_end` meets its contract. The invariant: the caption at `at` ends where that at `i` does. Assumes nothing.
use mathlib.Core.Path.{◌≡◌}
use Rattle.read_captions.specs.Captions.{caption_end}
use Rattle.read_captions.proofs.caption_end.Given as goal

abbrev pub invariant-loop-i : goal.invariant-loop-i
invariant-loop-i l = caption_end l.c l.at ≡ caption_end l.c l.i
