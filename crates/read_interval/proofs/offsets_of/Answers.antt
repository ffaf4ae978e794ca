-- `offsets_of` meets its contract. Assumes nothing.
use native.Mathlib.Omega.{arith}
use mathlib.Core.Path.{sym, ◌∙◌}
use Rattle.read_interval.specs.Interval.{least_end, greatest_end}
use Rattle.read_bytes.proofs.Tests.{between_is}
use Rattle.read_interval.proofs.Intervals.{left_out_most, offsets_in, offsets_empty, offsets_far}
use Rattle.read_interval.proofs.offsets_of.Goals as goal

pub overflow_add-lo : goal.overflow_add-lo
overflow_add-lo c =
    omega (arith, c.left_out.ensures, left_out_most c.args.o 40, (between_is least_end greatest_end c.args.v (sym c.near.ensures ∙ c.if-near.true)).1)

pub overflow_sub-hi : goal.overflow_sub-hi
overflow_sub-hi c =
    omega (arith, c.left_out-then-near-2.ensures, left_out_most c.args.c 41, (between_is least_end greatest_end c.args.w (sym c.near-then-near.ensures ∙ c.if-near-2.true)).0)

pub overflow_sub-result : goal.overflow_sub-result
overflow_sub-result c =
    omega (arith, (between_is least_end greatest_end c.args.v (sym c.near.ensures ∙ c.if-near.true)).0)

pub returns-then-lo-hi : goal.returns-then-lo-hi
returns-then-lo-hi c =
    offsets_in _ _ _ _ _ _ c.left_out.ensures c.left_out-then-near-2.ensures (sym c.near.ensures ∙ c.if-near.true) (sym c.near-then-near.ensures ∙ c.if-near-2.true) c.if-lo-hi.true

pub returns-else-lo-hi : goal.returns-else-lo-hi
returns-else-lo-hi c =
    offsets_empty _ _ _ _ _ _ c.left_out.ensures c.left_out-then-near-2.ensures (sym c.near.ensures ∙ c.if-near.true) (sym c.near-then-near.ensures ∙ c.if-near-2.true) c.if-lo-hi.false

pub returns-else-near-2 : goal.returns-else-near-2
returns-else-near-2 c = offsets_far _ _ _ _ _ _ (rw (sym c.near.ensures ∙ c.if-near.true, sym c.near-then-near.ensures ∙ c.if-near-2.false))

pub returns-else-near : goal.returns-else-near
returns-else-near c = offsets_far _ _ _ _ _ _ (rw (sym c.near.ensures ∙ c.if-near.false))
