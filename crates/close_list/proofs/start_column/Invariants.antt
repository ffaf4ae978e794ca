-- `start_column` meets its contract. The invariant: what rests on a mark of a row before x in word q is on the list. Assumes nothing.
use Prim.Native.Nat.{◌+◌, ◌*◌, ◌<◌}
use mathlib.Core.Path.{◌≡◌}
use Rattle.close_list.specs.Items.{QueuesMarked}
use Rattle.close_list.proofs.start_column.Given as goal

abbrev pub invariant-loop-x : goal.invariant-loop-x
invariant-loop-x l = (l.place ≡ 2 * l.x * l.n + l.q) × QueuesMarked l.on.count l.on.rows.now l.n (λ y p. (y < l.x) × (p ≡ l.q)) l.marks l.initial.todo l.todo
