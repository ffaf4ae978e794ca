-- `check` meets its contract. Assumes nothing.
use borrow.Author.Rules.{rules}
use mathlib.Core.Path.{◌≡◌, sym, ap, ◌∙◌}
use Rattle.std.specs.Prelude.{Err}
use Rattle.open_sheet.specs.Results.{accepted}
use Rattle.op_check.specs.CheckingSays.{checking_says}
use Rattle.spec_operations.specs.Operations.{counted}
use Rattle.open_sheet.proofs.Buffers.{fresh}
use Rattle.op_check.proofs.check.Goals as goal

pub open_sheet-requires : goal.open_sheet-requires
open_sheet-requires c = fresh

pub returns-in_err-sheet : goal.returns-in_err-sheet
returns-in_err-sheet c =
    let refused : c.from_residual.result ≡ Err c.in_err-sheet.field-0.0 = search rules in
    ap checking_says refused ∙ sym (ap counted c.in_err-sheet.ensures)

pub returns : goal.returns
returns c = let k = c.in_ok-sheet.ensures.1 in ap accepted k.rows ∙ sym (ap counted k.holds)
