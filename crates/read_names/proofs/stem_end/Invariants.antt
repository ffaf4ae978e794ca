-- `stem_end` meets its contract. The invariant: from `i` up to the spelling's end there are digits alone. Assumes nothing.
use Rattle.read_names.proofs.EndPlaces.{Back}
use Rattle.read_names.proofs.stem_end.Given as goal

abbrev pub invariant-loop-i : goal.invariant-loop-i
invariant-loop-i l = Back l.s l.at l.e l.i
