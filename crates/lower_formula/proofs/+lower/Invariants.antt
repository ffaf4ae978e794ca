-- `lower` and the functions that it calls in a cycle meet their contracts. The measure is the formula's size, then how far the call is from the next one that
-- goes to a child. Assumes nothing.
use Prim.Native.Nat.{◌+◌, ◌*◌}
use Rattle.read_arena.specs.NodeRules.{form_at}
use Rattle.lower_formula.proofs.Sizes.{weight}
use Rattle.lower_formula.proofs.+lower.Given as goal

abbrev pub decreases-join : goal.decreases-join
decreases-join l = 3 * (weight (form_at l.arena.now l.left) + weight (form_at l.arena.now l.right))

abbrev pub decreases-lower : goal.decreases-lower
decreases-lower l = 3 * weight (form_at l.arena.now l.node)

abbrev pub decreases-pair : goal.decreases-pair
decreases-pair l = 3 * (weight (form_at l.arena.now l.left) + weight (form_at l.arena.now l.right)) + 2

abbrev pub decreases-same : goal.decreases-same
decreases-same l = 3 * (weight (form_at l.arena.now l.left) + weight (form_at l.arena.now l.right)) + 1

abbrev pub decreases-timed : goal.decreases-timed
decreases-timed l = 3 * weight (form_at l.arena.now l.child) + 1
