-- `signed` meets its contract. Assumes nothing.
use native.Mathlib.Omega.{arith}
use Rattle.read_interval.specs.Interval.{signed}
use Rattle.read_interval.proofs.Ends.{four_most}
use Rattle.read_interval.proofs.signed.Goals as goal

pub overflow_add-result : goal.overflow_add-result
overflow_add-result c =
    omega (arith, four_most _ _ c.requires c.digits-v.ensures)

pub overflow_sub-result : goal.overflow_sub-result
overflow_sub-result c =
    omega (arith, four_most _ _ c.requires c.digits-v.ensures)

pub returns-then-plus : goal.returns-then-plus
unfolding signed
returns-then-plus c = rw (← c.digits-v.ensures, c.if-plus.true)

pub returns-else-plus : goal.returns-else-plus
unfolding signed
returns-else-plus c = rw (← c.digits-v.ensures, c.if-plus.false)
