-- `put_keep` meets its contract: six puts, one after the other.
-- Assumes nothing.
use mathlib.Core.Path.{◌≡◌}
use Rattle.spec_tilco.specs.Formula.{step_of}
use Rattle.read_arena.proofs.Keeps.{six_puts}
use Rattle.read_arena.proofs.put_keep.Goals as goal
use Rattle.read_arena.proofs.put_keep.Goals.{then-since, else-since}

pub returns : goal.returns
returns c =
    let step : c.if-since.step ≡ step_of c.args.since = elim c.if-since.branch [ then-since w ↦ rw w.if-since.true w.step-is | else-since w ↦ rw w.if-since.false w.step-is ] in
    six_puts _ _ _ _ _ _ step c.put_node.ensures c.put_node-2.ensures c.put_node-3.ensures c.put_node-4.ensures
    c.put_node-5.ensures c.put_node-6.ensures
