-- `with_settled` meets its contract: no more ticks are settled than the window has, and the first of them is the lesser of two. Assumes nothing.
use mathlib.Core.Logic.{inl, inr}
use native.Mathlib.Omega.{arith}
use Rattle.figure_run.proofs.Runs.{few_settled, settled_run}
use Rattle.figure_run.proofs.counts.with_settled.Goals as goal

pub overflow_add-result : goal.overflow_add-result
overflow_add-result c = omega (arith, few_settled c.requires (λ i. (c.type_inv.table i).fits) c.row_ticks-t.ensures)

pub overflow_add-result-2 : goal.overflow_add-result-2
overflow_add-result-2 c = omega (arith, few_settled c.requires (λ i. (c.type_inv.table i).fits) c.row_ticks-t.ensures)

pub overflow_sub-result : goal.overflow_sub-result
overflow_sub-result c = omega (arith, few_settled c.requires (λ i. (c.type_inv.table i).fits) c.row_ticks-t.ensures)

pub overflow_sub-result-2 : goal.overflow_sub-result-2
overflow_sub-result-2 c = omega (arith, few_settled c.requires (λ i. (c.type_inv.table i).fits) c.row_ticks-t.ensures)

pub returns-then-t-r : goal.returns-then-t-r
returns-then-t-r c = settled_run c.requires (λ i. (c.type_inv.table i).fits) c.row_ticks-t.ensures (omega arith) (inl (omega arith))

pub returns-else-t-r : goal.returns-else-t-r
returns-else-t-r c = settled_run c.requires (λ i. (c.type_inv.table i).fits) c.row_ticks-t.ensures (omega arith) (inr (omega arith))
