-- `put_span` meets its contract. The invariant: the span's marks before tick `from` were put. Assumes nothing.
use Prim.Native.Nat.{◌-◌, ◌≤◌}
use Rattle.table_marks.specs.Puts.{AddsMarks}
use Rattle.table_spans.proofs.SpanParts.{Earlier}
use Rattle.table_spans.proofs.put_span.Given as goal

abbrev pub invariant-loop-from : goal.invariant-loop-from
invariant-loop-from l =
    AddsMarks l.n (Earlier l.row l.value l.first l.from) l.initial.table l.table × (l.first ≤ l.from) × (l.from ≤ l.last)

abbrev pub decreases-loop-from : goal.decreases-loop-from
decreases-loop-from l = l.last - l.from
