-- `enter_parents` meets its contract. The invariant: a row of the list has its bit, or is still ahead. Assumes nothing.
use Rattle.close_list.proofs.Queueing.{Walking}
use Rattle.close_list.proofs.enter_parents.Given as goal

abbrev pub invariant-loop-h : goal.invariant-loop-h
invariant-loop-h l = Walking l.nexts l.count l.head l.h l.i l.initial.todo l.todo

abbrev pub decreases-loop-h : goal.decreases-loop-h
decreases-loop-h l = l.h
