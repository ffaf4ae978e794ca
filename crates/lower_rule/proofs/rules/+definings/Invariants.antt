-- `lower_definings` and `both_definings` meet their contracts. The measure is a node's number: children stand before their
-- parents. Assumes nothing.
use Prim.Native.Nat.{◌+◌, ◌*◌, ◌≤◌, max}
use Rattle.read_arena.specs.NodeRules.{definings_at, NodeIn}
use mathlib.Core.Path.{◌≡◌}
use Rattle.lower_rule.proofs.rules.+definings.Given as goal

abbrev pub decreases-both_definings : goal.decreases-both_definings
decreases-both_definings l = 2 * max l.left l.right + 2

abbrev pub decreases-lower_definings : goal.decreases-lower_definings
decreases-lower_definings l = 2 * l.node + 1

-- Nothing is written before the loop's end, and the defining rules at `inner` are those at the node.
abbrev pub invariant-lower_definings-loop-x : goal.invariant-lower_definings-loop-x
invariant-lower_definings-loop-x l =
    (l.inner ≤ l.node) × (l.tops ≡ l.initial.tops) × (l.out ≡ l.initial.out) × NodeIn l.arena l.inner × (definings_at l.arena l.inner ≡ definings_at l.arena l.node)

abbrev pub decreases-lower_definings-loop-x : goal.decreases-lower_definings-loop-x
decreases-lower_definings-loop-x l = l.inner
