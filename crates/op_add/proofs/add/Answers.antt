-- `add` meets its contract. Assumes nothing.
use native.Mathlib.Omega.{arith}
use Rattle.op_add.proofs.WorkLists.{short_enough, long_enough}
use Rattle.op_add.proofs.add.Goals as goal

pub add_with-requires : goal.add_with-requires
add_with-requires c = short_enough _ (omega (arith, c.if-table-le-SMALL.true))

pub add_with-requires-2 : goal.add_with-requires-2
add_with-requires-2 c = long_enough _
