-- `row_ticks` meets its contract. The invariant: the row's words from word q on are counted. Assumes nothing.
use native.Mathlib.Omega.{arith}
use Rattle.figure_run.proofs.RowWords.{counted_none, counted_marked, counted_unmarked, counted_all}
use Rattle.figure_run.proofs.counts.row_ticks.Goals as goal

pub loop-q-init : goal.loop-q-init
loop-q-init c = counted_none _ _ _ _ _ _ (omega arith) (omega arith) (omega arith)

pub loop-q-preserved-then-marked-ne0 : goal.loop-q-preserved-then-marked-ne0
loop-q-preserved-then-marked-ne0 c =
    counted_marked _ _ _ _ _ _ _ (omega arith) (omega arith) c.word_at-yes.ensures c.word_at-no.ensures (omega arith) (omega arith)
    c.loop-q.invariant c.if-marked-ne0.true

pub loop-q-preserved : goal.loop-q-preserved
loop-q-preserved c =
    counted_unmarked _ _ _ _ _ _ _ (omega arith) (omega arith) c.word_at-yes.ensures c.word_at-no.ensures (omega arith) (omega arith)
    c.loop-q.invariant c.if-marked-ne0.false

pub returns : goal.returns
returns c = counted_all _ _ _ _ _ (omega arith) c.loop-q.invariant
