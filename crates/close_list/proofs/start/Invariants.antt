-- `start` meets its contract. The invariant: what rests on a mark in a word before q is on the list. Assumes nothing.
use Prim.Native.Nat.{◌<◌}
use Rattle.close_list.specs.Items.{QueuesMarked}
use Rattle.close_list.proofs.start.Given as goal

abbrev pub invariant-loop-q : goal.invariant-loop-q
invariant-loop-q l = QueuesMarked l.on.count l.on.rows.now l.n (λ x p. (x < l.on.count) × (p < l.q)) l.marks l.initial.todo l.todo
