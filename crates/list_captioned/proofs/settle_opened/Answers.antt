-- `settle_opened` meets its contract. Assumes nothing.
use native.Mathlib.Omega.{arith}
use mathlib.Core.Path.{refl}
use Rattle.list_settled.proofs.Printing.{window_most}
use Rattle.list_captioned.proofs.Printing.{words_fit, ready, prints_no_captions, prints_no_room, prints_on_table}
use Rattle.list_captioned.proofs.settle_opened.Goals as goal

pub overflow_mul-words : goal.overflow_mul-words
overflow_mul-words c =
    omega (arith, (words_fit c.requires.1 _ refl).0)

pub words_of-requires : goal.words_of-requires
words_of-requires c =
    window_most c.requires.1

pub overflow_mul-words-in-Ok : goal.overflow_mul-words-in-Ok
overflow_mul-words-in-Ok c =
    omega (arith, (words_fit c.requires.1 _ c.words_of.ensures).1)

pub returns-then-table-words : goal.returns-then-table-words
returns-then-table-words c =
    let r = ready c.args.s.now c.args.names.now c.args.c.now c.requires.1 c.in-Ok.ensures in
    prints_no_room r.sheet _ c.words_of.ensures _ r.read (omega (arith, c.if-table-words.true)) c.write_refusal.ensures

pub settle_table-requires : goal.settle_table-requires
settle_table-requires c =
    let r = ready c.args.s.now c.args.names.now c.args.c.now c.requires.1 c.in-Ok.ensures in
    (r.sheet, r.captions)

pub returns-else-table-words : goal.returns-else-table-words
returns-else-table-words c =
    let r = ready c.args.s.now c.args.names.now c.args.c.now c.requires.1 c.in-Ok.ensures in
    prints_on_table r.sheet _ c.words_of.ensures _ r.read (omega (arith, c.if-table-words.false)) c.settle_table.ensures

pub returns-in-Err : goal.returns-in-Err
returns-in-Err c =
    prints_no_captions c.requires.1 c.in-Err.ensures (rw c.number.ensures at c.write_refusal-in-Err.ensures)
