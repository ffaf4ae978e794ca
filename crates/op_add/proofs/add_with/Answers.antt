-- `add_with` meets its contract. Assumes nothing.
use native.Mathlib.Omega.{arith}
use borrow.Author.Rules.{rules}
use mathlib.Core.Path.{◌≡◌, refl}
use Rattle.std.specs.Prelude.{Err}
use lib.ListN.{length-take}
use Rattle.spec_operations.specs.Operations.Adds.{not_opened}
use Rattle.open_sheet.proofs.Buffers.{fresh}
use Rattle.op_add.proofs.add_with.Goals as goal

pub open_table-requires : goal.open_table-requires
open_table-requires c = fresh

pub overflow_add-names : goal.overflow_add-names
overflow_add-names c = let h = c.in_ok-sheet.ensures in omega (arith, h.0.few)

pub slice_bounds-names-end : goal.slice_bounds-names-end
slice_bounds-names-end c = let h = c.in_ok-sheet.ensures in omega (arith, h.0)

pub slice_bounds-add_opened-end : goal.slice_bounds-add_opened-end
slice_bounds-add_opened-end c = let h = c.in_ok-sheet.ensures in simp length-take (omega (arith, h.0))

pub add_opened-requires : goal.add_opened-requires
add_opened-requires c =
    let h = c.in_ok-sheet.ensures in
    record { opened_table = (h.1, h.0.index); list_for = c.requires }

pub returns-in_err-sheet : goal.returns-in_err-sheet
returns-in_err-sheet c =
    let refused : c.from_residual.result ≡ Err c.in_err-sheet.field-0.0 = search rules in
    rw refused (not_opened c.in_err-sheet.ensures refl)
