-- `move_readings` meets its contract. Assumes nothing.
use borrow.Author.Rules.{rules}
use mathlib.Core.Path.{◌≡◌, refl}
use Rattle.std.specs.Prelude.{Err}
use Rattle.open_sheet.proofs.Buffers.{fresh}
use Rattle.spec_moves.specs.Moves.Moves.{not_opened}
use Rattle.op_moves.proofs.moves.move_readings.Goals as goal

pub open_sheet-requires : goal.open_sheet-requires
open_sheet-requires c = fresh

pub returns-in_err-sheet : goal.returns-in_err-sheet
returns-in_err-sheet c =
    let refused : c.from_residual.result ≡ Err c.in_err-sheet.field-0.0 = search rules in
    rw refused (not_opened c.in_err-sheet.ensures refl)

pub move_opened-requires : goal.move_opened-requires
move_opened-requires c =
    let h = c.in_ok-sheet.ensures in
    let k = h.1 in
    (record { contents = k.contents; holds = k.holds; names_are = k.names_are; window_is = k.window_is }, h.0.index)
