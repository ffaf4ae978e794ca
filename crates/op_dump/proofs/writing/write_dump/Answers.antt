-- `write_dump` meets its contract. Assumes nothing.
use borrow.Author.Rules.{rules}
use native.Mathlib.Omega.{arith}
use mathlib.Core.Path.{◌≡◌, refl}
use Rattle.std.specs.Prelude.{Err}
use Rattle.read_head.proofs.NamesPut.{places_lent}
use Rattle.open_sheet.proofs.Buffers.{fresh}
use Rattle.spec_operations.proofs.Opened.{some_window, table_length}
use Rattle.spec_dump.specs.Dumps.WritesDump.{not_opened}
use Rattle.op_dump.proofs.Outcomes.{can_write, when_clashing, as_written}
use Rattle.op_dump.proofs.writing.write_dump.Goals as goal

pub open_table-requires : goal.open_table-requires
open_table-requires c = fresh

pub returns-in_err-sheet : goal.returns-in_err-sheet
returns-in_err-sheet c =
    let refused : c.from_residual.result ≡ Err c.in_err-sheet.field-0.0 = search rules in
    rw refused (not_opened c.in_err-sheet.ensures refl)

pub words_of-n-requires : goal.words_of-n-requires
words_of-n-requires c = let h = c.in_ok-sheet.ensures in omega (arith, (some_window h.1 _ refl).1)

pub clash_in-requires : goal.clash_in-requires
clash_in-requires c = table_length c.in_ok-sheet.ensures.1 _ c.words_of-n.ensures

pub returns-then-clash_in : goal.returns-then-clash_in
returns-then-clash_in c = when_clashing c.in_ok-sheet.ensures.1 _ c.words_of-n.ensures c.if-clash_in.true c.clash_in.ensures

pub overflow_add-sheet : goal.overflow_add-sheet
overflow_add-sheet c = let h = c.in_ok-sheet.ensures in omega (arith, h.0.few)

pub slice_bounds-write_measured-end : goal.slice_bounds-write_measured-end
slice_bounds-write_measured-end c = let h = c.in_ok-sheet.ensures in omega (arith, h.0)

pub write_measured-requires : goal.write_measured-requires
write_measured-requires c =
    let h = c.in_ok-sheet.ensures in can_write h.1 _ c.words_of-n.ensures (places_lent h.0)

pub returns : goal.returns
returns c =
    let h = c.in_ok-sheet.ensures in
    as_written h.1 _ c.words_of-n.ensures (places_lent h.0) c.if-clash_in.false c.clash_in.ensures c.write_measured.ensures
