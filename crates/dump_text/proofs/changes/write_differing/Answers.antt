-- `write_differing` meets its contract. The invariant: the changes of the signals from `x` on are left to be written. Assumes nothing.
use native.Mathlib.Omega.{arith}
use mathlib.Core.Path.{refl}
use Rattle.write_bytes.proofs.Writing.{counted_like, counted_first, nothing}
use Rattle.write_bytes.proofs.Leaves.{left_all, left_rest, left_none, counted_left}
use Rattle.dump_changes.specs.WordSigns.{row_sign}
use Rattle.dump_text.proofs.Dumpable.{row_there, tick_there}
use Rattle.dump_text.proofs.Events.{changed_next, same_next, changes_end}
use Rattle.dump_text.proofs.changes.write_differing.Goals as goal
use Rattle.dump_text.proofs.changes.write_differing.Goals.{then-sign-old, else-sign-old}

pub loop-x-init : goal.loop-x-init
loop-x-init c = left_all refl

pub row_sign-sign-requires : goal.row_sign-sign-requires
row_sign-sign-requires c =
    (tick_there c.requires.0 c.requires.1, row_there c.requires.0 (omega arith))

pub row_sign-old-requires : goal.row_sign-old-requires
row_sign-old-requires c =
    (tick_there c.requires.0 (omega (arith, c.requires.1)), row_there c.requires.0 (omega arith))

pub write_sign-requires : goal.write_sign-requires
write_sign-requires c =
    let next = changed_next (row_sign c.args.n c.args.table.now) c.args.tick c.args.k c.loop-x.x (omega arith) c.row_sign-sign.ensures c.row_sign-old.ensures (omega arith) c.if-sign-old.true in
    (omega (arith, c.requires.0.few), counted_first _ (counted_like (counted_left c.requires.2 c.loop-x.invariant) next))

pub loop-x-preserved : goal.loop-x-preserved
loop-x-preserved c =
    let f = row_sign c.args.n c.args.table.now in
    elim c.if-sign-old.branch [
      | then-sign-old w ↦ rw w.w-is (left_rest _ c.loop-x.invariant w.write_sign.ensures (changed_next f c.args.tick c.args.k c.loop-x.x (omega arith) c.row_sign-sign.ensures c.row_sign-old.ensures (omega arith) w.if-sign-old.true))
      | else-sign-old w ↦ rw w.w-is (left_rest _ c.loop-x.invariant nothing (same_next f c.args.tick c.args.k c.loop-x.x (omega arith) c.row_sign-sign.ensures c.row_sign-old.ensures (omega arith) w.if-sign-old.false))
    ]

pub returns : goal.returns
returns c =
    left_none c.loop-x.invariant (changes_end (row_sign c.args.n c.args.table.now) c.args.tick c.args.k c.loop-x.x (omega arith))
