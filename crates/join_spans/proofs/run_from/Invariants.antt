-- `run_from` meets its contract. The invariant: the numbers from i to `next` are joined to the run. Assumes nothing.
use Rattle.join_spans.proofs.RunSpans.{Running}
use Rattle.join_spans.proofs.run_from.Given as goal

abbrev pub invariant-loop-next : goal.invariant-loop-next
invariant-loop-next l = Running l.noted l.i l.row l.first l.last l.next
