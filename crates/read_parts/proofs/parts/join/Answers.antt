-- `join` meets its contract. Assumes nothing.
use native.Mathlib.Omega.{arith}
use Rattle.read_parts.proofs.parts.join.Goals as goal

pub returns-then-first : goal.returns-then-first
returns-then-first c = record { put = rw c.if-first.true; count = rw c.if-first.true }

pub overflow_sub-left : goal.overflow_sub-left
overflow_sub-left c = omega (arith, (c.requires c.if-first.false).some)

pub overflow_sub-right : goal.overflow_sub-right
overflow_sub-right c = omega (arith, (c.requires c.if-first.false).after)

pub put_node-requires : goal.put_node-requires
put_node-requires c =
    let asked = c.requires c.if-first.false in
    record { node_room = asked.room; children_before = (omega arith, omega arith) }

pub overflow_add-result : goal.overflow_add-result
overflow_add-result c = omega (arith, (c.requires c.if-first.false).room.few)

pub returns : goal.returns
returns c = record { put = rw c.if-first.false c.put_node.ensures; count = rw c.if-first.false (omega arith) }
