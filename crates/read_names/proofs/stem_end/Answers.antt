-- `stem_end` meets its contract. The invariant: from `i` up to the spelling's end there are digits alone. Assumes nothing.
use native.Mathlib.Omega.{arith}
use Rattle.read_names.proofs.EndPlaces.{back_start, back_end, back_letter, back_on}
use Rattle.read_names.proofs.stem_end.Goals as goal

pub loop-i-init : goal.loop-i-init
loop-i-init c = back_start c.requires

pub returns-then-s-i-gt57 : goal.returns-then-s-i-gt57
returns-then-s-i-gt57 c = omega (arith, back_letter c.requires c.loop-i.invariant (omega arith) (omega arith))

pub loop-i-preserved : goal.loop-i-preserved
loop-i-preserved c = back_on c.requires c.loop-i.invariant (omega arith) (omega arith)

pub returns : goal.returns
returns c = omega (arith, back_end c.requires c.loop-i.invariant (omega arith))
