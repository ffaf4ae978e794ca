-- `take` is safe and ends. Assumes nothing.
use native.Mathlib.Omega.{arith}
use mathlib.Core.Path.{refl}
use mathlib.Core.List.{List}
use Prim.Native.Nat.{ℕ, ◌*◌, ◌≤◌}
use lib.ListN.{length, length-take}
use Rattle.spec_tilco.specs.Table.{words}
use Rattle.read_index.specs.Index.{name_count, first_names}
use Rattle.read_head.specs.SheetHead.{first_places, NamesPut}
use Rattle.open_table.specs.OpenedTable.{OpenedTable}
use Rattle.open_sheet.proofs.Buffers.{fresh}
use Rattle.spec_operations.proofs.Opened.{some_window}
use Rattle.op_add.proofs.Outcomes.{names_fit}
use Rattle.bench_operations.proofs.taking.take.Goals as goal

-- The table has the rows of the names in the index.
signals-room : {s T U B tops : List ℕ} {n w t count : ℕ} → NamesPut s T n → OpenedTable s U (first_places n T) B tops w t count → 2 * name_count (first_names n T) * words w ≤ length U
signals-room {T = T} {n = n} k h = (names_fit (first_names n T) h _ refl).1

pub open_table-requires : goal.open_table-requires
open_table-requires c = fresh

pub overflow_add-names : goal.overflow_add-names
overflow_add-names c = let h = c.in_ok-sheet.ensures in omega (arith, h.0.few)

pub slice_bounds-names-end : goal.slice_bounds-names-end
slice_bounds-names-end c =
    let h = c.in_ok-sheet.ensures in omega (arith, h.0)

pub slice_bounds-take_opened-end : goal.slice_bounds-take_opened-end
slice_bounds-take_opened-end c =
    let h = c.in_ok-sheet.ensures in simp length-take (omega (arith, h.0))

pub take_opened-requires : goal.take_opened-requires
take_opened-requires c =
    let h = c.in_ok-sheet.ensures in
    let w = some_window h.1 _ refl in
    (h.0.index, w.0, w.1, signals-room h.0 h.1)
