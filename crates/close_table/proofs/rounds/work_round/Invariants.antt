-- `work_round` meets its contract. The invariant: the words of ticks before q are done. Assumes nothing.
use Rattle.close_word.specs.VisitSeries.{WorksList}
use Rattle.close_table.specs.Rounds.{InColumns}
use Rattle.close_table.proofs.rounds.work_round.Given as goal

abbrev pub invariant-loop-q : goal.invariant-loop-q
invariant-loop-q l = WorksList l.on.count l.on.rows.now l.on.window l.n (InColumns l.on.count l.q) l.initial.marks l.marks l.initial.todo l.todo
