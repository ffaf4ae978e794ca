-- `work_column` meets its contract. The invariant: the first i words of the list, up or down, are done. Assumes nothing.
use Rattle.close_word.specs.VisitSeries.{WorksList}
use Rattle.close_table.proofs.Turning.{Turned}
use Rattle.close_table.proofs.rounds.work_column.Given as goal

abbrev pub invariant-loop-i : goal.invariant-loop-i
invariant-loop-i l = WorksList l.on.count l.on.rows.now l.on.window l.n (Turned l.on.count l.on.rows.now l.on.window l.n l.up l.q l.i) l.initial.marks l.marks l.initial.todo l.todo
