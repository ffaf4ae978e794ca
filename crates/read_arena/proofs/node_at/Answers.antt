-- `node_at` meets its contract: one case for each kind.
-- Assumes nothing.
use mathlib.Core.Path.{sym}
use native.Mathlib.Omega.{arith}
use Rattle.read_arena.specs.Nodes.{node_at}
use Rattle.read_arena.proofs.Cases.{kind_past}
use Rattle.read_arena.proofs.node_at.Goals as goal

pub returns-in_default : goal.returns-in_default
unfolding node_at
returns-in_default c =
    sym (kind_past _ _ _ _ (omega arith) (omega arith) (omega arith) (omega arith) (omega arith) (omega arith))
