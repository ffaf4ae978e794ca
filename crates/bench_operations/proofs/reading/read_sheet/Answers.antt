-- `read_sheet` is safe and ends. Assumes nothing.
use native.Mathlib.Omega.{arith}
use lib.ListN.{length-take}
use Rattle.read_head.proofs.Heads.{head_past}
use Rattle.open_sheet.proofs.Buffers.{fresh_names}
use Rattle.bench_operations.proofs.reading.read_sheet.Goals as goal

pub head-requires : goal.head-requires
head-requires c = (fresh_names, omega arith)

pub overflow_add-names : goal.overflow_add-names
overflow_add-names c = omega (arith, c.in_ok-head.ensures.put.few)

pub slice_bounds-names-end : goal.slice_bounds-names-end
slice_bounds-names-end c = omega (arith, c.in_ok-head.ensures.put.few)

pub slice_bounds-read_lines-end : goal.slice_bounds-read_lines-end
slice_bounds-read_lines-end c = simp length-take (omega (arith, c.in_ok-head.ensures.put.few))

pub read_lines-requires : goal.read_lines-requires
read_lines-requires c =
    let h = c.in_ok-head.ensures in
    let a = head_past _ h.lines in
    record { within = a.inside; before = a.before; index = h.put.index; most = h.sizes.rules_high }
