-- `caption_part` meets its contract. Assumes nothing.
use native.Mathlib.Omega.{arith}
use mathlib.Core.Path.{◌≡◌, ap, ◌∙◌}
use borrow.Author.Rules.{rules}
use Rattle.std.specs.Prelude.{Err}
use Rattle.open_sheet.proofs.Buffers.{fresh}
use Rattle.read_head.proofs.NamesPut.{used_long}
use Rattle.read_captions.proofs.NotedCaptions.{lent_long, lent_none}
use Rattle.op_caption.specs.CaptioningSays.{captioning_says}
use Rattle.op_caption.proofs.Outcomes.{sheet_off, places_inside, as_opened}
use Rattle.op_caption.proofs.caption_part.Goals as goal

pub open_sheet-requires : goal.open_sheet-requires
open_sheet-requires c = fresh

pub returns-in_err-sheet : goal.returns-in_err-sheet
returns-in_err-sheet c =
    let refused : c.from_residual.result ≡ Err c.in_err-sheet.field-0.0 = search rules in
    ap captioning_says refused ∙ sheet_off _ _ _ c.in_err-sheet.ensures

pub slice_bounds-part_noted-end-2 : goal.slice_bounds-part_noted-end-2
slice_bounds-part_noted-end-2 c = lent_long c.in_ok-sheet.ensures.0.few

pub part_noted-requires : goal.part_noted-requires
part_noted-requires c =
    let h = c.in_ok-sheet.ensures in
    (h.0.index, places_inside h.0 h.1, lent_none h.0.few (omega (arith, used_long h.0)))

pub returns : goal.returns
returns c =
    let h = c.in_ok-sheet.ensures in
    as_opened h.0 h.1 _ _ c.part_noted.ensures
