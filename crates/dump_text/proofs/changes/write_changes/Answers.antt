-- `write_changes` meets its contract. The invariant: the changes from word `q` on are left to be written. Assumes nothing.
use native.Mathlib.Omega.{arith}
use mathlib.Core.Path.{refl}
use Rattle.write_bytes.proofs.Writing.{counted_like, counted_first}
use Rattle.write_bytes.proofs.Leaves.{left_all, left_rest, left_none, counted_left}
use Rattle.dump_changes.specs.WordSigns.{row_sign}
use Rattle.dump_text.proofs.Stretches.{word_next, words_end}
use Rattle.dump_text.proofs.changes.write_changes.Goals as goal

pub loop-q-init : goal.loop-q-init
loop-q-init c = left_all refl

pub write_word-requires : goal.write_word-requires
write_word-requires c =
    let next = word_next (row_sign c.args.n c.args.table.now) c.args.k c.args.window c.loop-q.q in
    (c.requires.0, omega arith, counted_first _ (counted_like (counted_left c.requires.1 c.loop-q.invariant) next))

pub loop-q-preserved : goal.loop-q-preserved
loop-q-preserved c =
    let next = word_next (row_sign c.args.n c.args.table.now) c.args.k c.args.window c.loop-q.q in
    left_rest _ c.loop-q.invariant c.write_word.ensures next

pub returns : goal.returns
returns c =
    left_none c.loop-q.invariant (words_end (row_sign c.args.n c.args.table.now) c.args.k c.args.window c.loop-q.q (omega (arith, c.requires.0.words_are)))
