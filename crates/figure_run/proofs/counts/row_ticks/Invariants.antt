-- `row_ticks` meets its contract. The invariant: the row's words from word q on are counted. Assumes nothing.
use Rattle.figure_run.proofs.RowWords.{CountedFrom}
use Rattle.figure_run.proofs.counts.row_ticks.Given as goal

abbrev pub invariant-loop-q : goal.invariant-loop-q
invariant-loop-q l = CountedFrom l.n l.table l.row l.q l.held l.failed l.first
