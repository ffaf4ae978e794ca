-- `mark_true` meets its contract. The invariant: the words before q are done. Assumes nothing.
use Rattle.table_marks.specs.Puts.{AddsMarks}
use Rattle.close_table.proofs.MarkTops.{Until}
use Rattle.close_table.proofs.tops.mark_true.Given as goal

abbrev pub invariant-loop-q : goal.invariant-loop-q
invariant-loop-q l = AddsMarks l.n (Until l.n l.window l.row l.q) l.initial.marks l.marks
