-- `mark_tops` meets its contract. The invariant: the tops before the next are marked. Assumes nothing.
use Rattle.table_marks.specs.Puts.{AddsMarks}
use Rattle.close_table.specs.Closes.{TopMarks}
use Rattle.close_table.proofs.tops.mark_tops.Given as goal

abbrev pub invariant-loop-top : goal.invariant-loop-top
invariant-loop-top l = AddsMarks l.n (TopMarks l.window l.tops l.top-index) l.initial.marks l.marks
