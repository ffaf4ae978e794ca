-- `read_dump` meets its contract. Assumes nothing.
use borrow.Author.Rules.{rules}
use native.Mathlib.Omega.{arith}
use mathlib.Core.Path.{◌≡◌}
use lib.ListN.{length-take}
use Rattle.std.specs.Prelude.{Err}
use Rattle.open_sheet.proofs.Buffers.{fresh}
use Rattle.op_dump.proofs.Outcomes.{window_fits, as_read, sheet_off}
use Rattle.op_dump.proofs.reading.read_dump.Goals as goal

pub open_sheet-requires : goal.open_sheet-requires
open_sheet-requires c = fresh

pub returns-in_err-sheet : goal.returns-in_err-sheet
returns-in_err-sheet c =
    let refused : c.from_residual.result ≡ Err c.in_err-sheet.field-0.0 = search rules in
    rw refused (sheet_off _ c.in_err-sheet.ensures _ _)

pub overflow_add-names : goal.overflow_add-names
overflow_add-names c = let h = c.in_ok-sheet.ensures in omega (arith, h.0.few)

pub slice_bounds-names-end : goal.slice_bounds-names-end
slice_bounds-names-end c = let h = c.in_ok-sheet.ensures in omega (arith, h.0)

pub slice_bounds-read_opened-end : goal.slice_bounds-read_opened-end
slice_bounds-read_opened-end c = let h = c.in_ok-sheet.ensures in simp length-take (omega (arith, h.0))

pub read_opened-requires : goal.read_opened-requires
read_opened-requires c =
    let h = c.in_ok-sheet.ensures in let w = window_fits h.1 in (h.0.index, w.0, w.1)

pub returns : goal.returns
returns c = as_read c.in_ok-sheet.ensures.1 _ c.read_opened.ensures
