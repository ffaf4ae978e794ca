-- `write_part` and the functions that it calls in a cycle end. The measure is the size of the formula, then how far the call is from the next one that
-- goes to a child. Assumes nothing.
use Prim.Native.Nat.{◌+◌, ◌*◌}
use Rattle.read_arena.specs.NodeRules.{text_of, written_at}
use Rattle.write_formula.proofs.Nodes.{weight}
use Rattle.write_formula.proofs.+write.Given as goal

abbrev pub decreases-write_bare : goal.decreases-write_bare
decreases-write_bare l = 3 * weight (text_of l.node (written_at l.arena.now)) + 1

abbrev pub decreases-write_keep : goal.decreases-write_keep
decreases-write_keep l = 3 * (weight (written_at l.arena.now l.left) + weight (written_at l.arena.now l.right)) + 3

abbrev pub decreases-write_pair : goal.decreases-write_pair
decreases-write_pair l = 3 * (weight (written_at l.arena.now l.left) + weight (written_at l.arena.now l.right)) + 3

abbrev pub decreases-write_part : goal.decreases-write_part
decreases-write_part l = 3 * weight (written_at l.arena.now l.node) + 2

abbrev pub decreases-write_timed : goal.decreases-write_timed
decreases-write_timed l = 3 * weight (written_at l.arena.now l.child) + 3
