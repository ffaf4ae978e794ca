-- `put_node` meets its contract: the node's four numbers are stored one after the other.
-- Assumes nothing.
use mathlib.Core.Path.{ap, ◌∙◌}
use native.Mathlib.Omega.{arith}
use lib.ListN.{length, length-set}
use Rattle.read_arena.specs.Nodes.{put_node}
use Rattle.read_arena.specs.NodeRules.{two_bytes}
use Rattle.read_arena.proofs.Puts.{code_length, four_stored, right_later}
use Rattle.read_arena.proofs.put_node.Goals as goal

pub code_of-requires : goal.code_of-requires
code_of-requires c = right_later c.args.node c.args.count two_bytes (omega arith) c.requires.children_before

pub bounds-arena-at-2 : goal.bounds-arena-at-2
bounds-arena-at-2 c = simp length-set (omega arith)

pub bounds-arena-at-3 : goal.bounds-arena-at-3
bounds-arena-at-3 c = simp length-set (omega arith)

pub bounds-arena-at-4 : goal.bounds-arena-at-4
bounds-arena-at-4 c = simp length-set (omega arith)

pub returns : goal.returns
unfolding put_node
returns c =
    rw (← c.code_of.ensures) (four_stored _ c.code_of.result _ (ap length c.code_of.ensures ∙ code_length c.args.node))
