-- `settle_captioned` meets its contract. Assumes nothing.
use native.Mathlib.Omega.{arith}
use mathlib.Core.Path.{refl}
use Rattle.read_head.proofs.NamesPut.{used_long}
use Rattle.read_captions.proofs.NotedCaptions.{lent_long, lent_none}
use Rattle.open_sheet.proofs.Buffers.{fresh}
use Rattle.list_settled.proofs.Printing.{begun}
use Rattle.list_captioned.proofs.Printing.{prints_no_sheet}
use Rattle.list_captioned.proofs.settle_captioned.Goals as goal

pub open_sheet-requires : goal.open_sheet-requires
open_sheet-requires c = fresh

pub slice_bounds-settle_opened-end-in-Ok : goal.slice_bounds-settle_opened-end-in-Ok
slice_bounds-settle_opened-end-in-Ok c =
    let h = c.in-Ok.ensures in lent_long h.0.few

pub settle_opened-requires : goal.settle_opened-requires
settle_opened-requires c =
    let h = c.in-Ok.ensures in
    (h.0.index, begun h.1 refl, lent_none h.0.few (omega (arith, used_long h.0)))

pub returns-in-Err : goal.returns-in-Err
returns-in-Err c =
    prints_no_sheet c.in-Err.ensures (rw c.number.ensures at c.write_refusal.ensures)
