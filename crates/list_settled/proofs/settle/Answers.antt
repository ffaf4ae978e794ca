-- `settle` meets its contract. Assumes nothing.
use native.Mathlib.Omega.{arith}
use mathlib.Core.Path.{refl}
use lib.ListN.{length-take}
use Rattle.read_head.proofs.NamesPut.{places_lent}
use Rattle.open_sheet.proofs.Buffers.{fresh}
use Rattle.open_table.proofs.Tables.{words_most}
use Rattle.list_settled.proofs.Printing.{begun, prints_no_sheet, prints_no_room, prints_on_table}
use Rattle.list_settled.proofs.settle.Goals as goal

pub open_sheet-requires : goal.open_sheet-requires
open_sheet-requires c = fresh

pub overflow_mul-words : goal.overflow_mul-words
overflow_mul-words c =
    let y = c.in-Ok.ensures in
    omega (arith, (words_most y.1 _ refl).1)

pub words_of-requires : goal.words_of-requires
words_of-requires c =
    let y = c.in-Ok.ensures in
    (words_most y.1 _ refl).0

pub overflow_mul-words-in-Ok : goal.overflow_mul-words-in-Ok
overflow_mul-words-in-Ok c =
    let y = c.in-Ok.ensures in
    omega (arith, (words_most y.1 _ c.words_of.ensures).2)

pub returns-then-table-words : goal.returns-then-table-words
returns-then-table-words c =
    let y = c.in-Ok.ensures in
    prints_no_room (begun y.1 refl) _ c.words_of.ensures (omega (arith, c.if-table-words.true)) c.write_refusal.ensures

pub overflow_add-sheet : goal.overflow_add-sheet
overflow_add-sheet c = let y = c.in-Ok.ensures in omega (arith, y.0.few)

pub slice_bounds-settle_table-end : goal.slice_bounds-settle_table-end
slice_bounds-settle_table-end c = let y = c.in-Ok.ensures in omega (arith, y.0.few)

pub slice_bounds-settle_table-end-in-Ok-2 : goal.slice_bounds-settle_table-end-in-Ok-2
slice_bounds-settle_table-end-in-Ok-2 c = simp length-take (omega (arith, c.if-table-words.false))

pub settle_table-requires : goal.settle_table-requires
settle_table-requires c =
    let y = c.in-Ok.ensures in
    begun y.1 (places_lent y.0)

pub returns-else-table-words : goal.returns-else-table-words
returns-else-table-words c =
    let y = c.in-Ok.ensures in
    prints_on_table (begun y.1 refl) _ c.words_of.ensures (omega (arith, c.if-table-words.false)) c.settle_table.ensures

pub returns-in-Err : goal.returns-in-Err
returns-in-Err c = prints_no_sheet c.in-Err.ensures (rw c.number.ensures at c.write_refusal-in-Err.ensures)
