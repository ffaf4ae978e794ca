-- `ask` meets its contract. Assumes nothing.
use native.Mathlib.Omega.{arith}
use borrow.Author.Rules.{rules}
use mathlib.Core.Path.{◌≡◌, refl}
use Rattle.std.specs.Prelude.{Err}
use Rattle.spec_operations.specs.Operations.Asks.{not_opened}
use Rattle.read_head.proofs.NamesPut.{places_long}
use Rattle.open_sheet.proofs.Buffers.{fresh}
use Rattle.spec_operations.proofs.Opened.{some_window, table_length}
use Rattle.op_ask.proofs.Outcomes.{signal_past, tick_past, cell_in, answers}
use Rattle.op_ask.proofs.ask.Goals as goal

pub open_table-requires : goal.open_table-requires
open_table-requires c = fresh

pub returns-then-sheet-signal : goal.returns-then-sheet-signal
returns-then-sheet-signal c = let h = c.in_ok-sheet.ensures in signal_past h.1 _ refl _ _ (omega (arith, places_long h.0))

pub returns-then-sheet-tick : goal.returns-then-sheet-tick
returns-then-sheet-tick c = let h = c.in_ok-sheet.ensures in tick_past h.1 _ refl _ _ c.if-sheet-tick.true

pub words_of-n-requires : goal.words_of-n-requires
words_of-n-requires c = let h = c.in_ok-sheet.ensures in omega (arith, (some_window h.1 _ refl).1)

pub clash_in-clash-requires : goal.clash_in-clash-requires
clash_in-clash-requires c = let h = c.in_ok-sheet.ensures in table_length h.1 _ c.words_of-n.ensures

pub value_at-value-requires : goal.value_at-value-requires
value_at-value-requires c =
    let h = c.in_ok-sheet.ensures in
    let i = cell_in h.1 _ c.words_of-n.ensures c.args.signal c.args.tick (omega (arith, places_long h.0)) (omega arith) in
    (i.1, i.0, c.clash_in-clash.ensures)

pub returns : goal.returns
returns c = let h = c.in_ok-sheet.ensures in answers h.1 _ c.words_of-n.ensures _ _ (omega (arith, places_long h.0)) (omega arith) c.value_at-value.ensures

pub returns-in_err-sheet : goal.returns-in_err-sheet
returns-in_err-sheet c =
    let refused : c.from_residual.result ≡ Err c.in_err-sheet.field-0.0 = search rules in
    rw refused (not_opened c.in_err-sheet.ensures)
