-- `write_first` meets its contract. The invariant: the signs of the signals from `x` on are left to be written. Assumes nothing.
use native.Mathlib.Omega.{arith}
use mathlib.Core.Path.{refl}
use Rattle.write_bytes.proofs.Writing.{counted_like, counted_first}
use Rattle.write_bytes.proofs.Leaves.{left_all, left_rest, left_none, counted_left}
use Rattle.dump_changes.specs.WordSigns.{row_sign}
use Rattle.dump_text.proofs.Dumpable.{row_there, tick_there}
use Rattle.dump_text.proofs.Events.{signs_next, signs_end}
use Rattle.dump_text.proofs.changes.write_first.Goals as goal

pub loop-x-init : goal.loop-x-init
loop-x-init c = left_all refl

pub row_sign-sign-requires : goal.row_sign-sign-requires
row_sign-sign-requires c =
    (tick_there c.requires.0 (omega (arith, c.requires.0.some)), row_there c.requires.0 (omega arith))

pub write_sign-requires : goal.write_sign-requires
write_sign-requires c =
    let next = signs_next (row_sign c.args.n c.args.table.now) 0 c.args.k c.loop-x.x (omega arith) in
    (omega (arith, c.requires.0.few), counted_first _ (counted_like (counted_left c.requires.1 c.loop-x.invariant) (rw (← c.row_sign-sign.ensures) at next)))

pub loop-x-preserved : goal.loop-x-preserved
loop-x-preserved c =
    let next = signs_next (row_sign c.args.n c.args.table.now) 0 c.args.k c.loop-x.x (omega arith) in
    left_rest _ c.loop-x.invariant c.write_sign.ensures (rw (← c.row_sign-sign.ensures) at next)

pub returns : goal.returns
returns c =
    left_none c.loop-x.invariant (signs_end (row_sign c.args.n c.args.table.now) 0 c.args.k c.loop-x.x (omega arith))
