-- `meets_run` meets its contract. Assumes nothing.
use native.Mathlib.Omega.{arith}
use Rattle.join_spans.proofs.RunSpans.{same_row, other_row}
use Rattle.join_spans.proofs.meets_run.Goals as goal

pub returns-then-w-row : goal.returns-then-w-row
returns-then-w-row c = same_row _ 0 _ _ (omega arith) c.if-w-row.true

pub returns-else-w-row : goal.returns-else-w-row
returns-else-w-row c = other_row _ 0 _ _ c.if-w-row.false
