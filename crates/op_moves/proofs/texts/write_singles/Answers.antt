-- `write_singles` meets its contract. The invariant: the readings at the ticks before `tick` are written. Assumes nothing.
use mathlib.Core.Path.{refl}
use native.Mathlib.Omega.{arith}
use Rattle.read_names.proofs.Names.{names_many}
use Rattle.join_spans.specs.Joining.{singles}
use Rattle.op_moves.proofs.Progress.{starts, counts, goes_on, ends}
use Rattle.op_moves.proofs.RunTexts.{next_single, no_single}
use Rattle.op_moves.proofs.texts.write_singles.Goals as goal

pub loop-tick-init : goal.loop-tick-init
unfolding singles
loop-tick-init c = starts refl

pub write_entry-requires : goal.write_entry-requires
write_entry-requires c =
    (simp names_many at c.requires.0.signal, counts c.loop-tick.invariant c.requires.1 _ (next_single _ _ _ _ _ (omega arith)))

pub loop-tick-preserved : goal.loop-tick-preserved
loop-tick-preserved c =
    goes_on c.loop-tick.invariant (next_single _ _ _ _ _ (omega arith)) c.write_entry.ensures

pub returns : goal.returns
returns c = ends c.loop-tick.invariant (no_single _ _ _ _ _ (omega arith))
