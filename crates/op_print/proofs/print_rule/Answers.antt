-- `print_rule` meets its contract. Assumes nothing.
use borrow.Author.Rules.{rules}
use native.Mathlib.Omega.{arith}
use mathlib.Core.Path.{◌≡◌}
use lib.ListN.{length-take}
use Rattle.std.specs.Prelude.{Err}
use Rattle.open_sheet.proofs.Buffers.{fresh}
use Rattle.spec_operations.proofs.TextAnswers.{gives_refused}
use Rattle.op_print.proofs.Outcomes.{sheet_refused}
use Rattle.op_print.proofs.print_rule.Goals as goal

pub open_sheet-requires : goal.open_sheet-requires
open_sheet-requires c = fresh

pub returns-in_err-sheet : goal.returns-in_err-sheet
returns-in_err-sheet c =
    let refused : c.from_residual.result ≡ Err c.in_err-sheet.field-0.0 = search rules in
    rw refused (gives_refused (sheet_refused _ c.in_err-sheet.ensures _ _) _)

pub overflow_add-names : goal.overflow_add-names
overflow_add-names c = omega (arith, c.in_ok-sheet.ensures.0.few)

pub slice_bounds-names-end : goal.slice_bounds-names-end
slice_bounds-names-end c = omega (arith, c.in_ok-sheet.ensures.0)

pub slice_bounds-print_opened-end : goal.slice_bounds-print_opened-end
slice_bounds-print_opened-end c = simp length-take (omega (arith, c.in_ok-sheet.ensures.0))

pub print_opened-requires : goal.print_opened-requires
print_opened-requires c =
    let h = c.in_ok-sheet.ensures in
    let k = h.1 in
    record { contents = k.contents; sheet = k.holds; names_are = k.names_are; index = h.0.index }
