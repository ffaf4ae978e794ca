-- `name` meets its contract. Assumes nothing.
use native.Mathlib.Omega.{arith}
use Rattle.read_parts.specs.Parsed.Parses.{refuses}
use Rattle.read_parts.proofs.Levels.{leaf}
use Rattle.read_parts.proofs.Steps.{letter_ahead, name_found, name_unknown}
use Rattle.read_parts.proofs.parts.name.Goals as goal

pub put_node-requires : goal.put_node-requires
put_node-requires c =
    let asked = c.requires in
    let w = letter_ahead _ _ asked.letter in
    record { node_room = record { fits = omega (arith, w.ahead, w.inside, asked.ready.room.fits); few = omega (arith, w.ahead, w.inside, asked.ready.room.few) }; children_before = tt }

pub returns-then-i-names : goal.returns-then-i-names
returns-then-i-names c =
    let asked = c.requires in
    let w = letter_ahead _ _ asked.letter in
    let f = c.find-f.ensures in
    leaf _ _ _ _ (name_found _ c.args.names.now _ _ f.found c.if-i-names.true f.ends) (omega (arith, w.ahead, f.ends)) (omega (arith, w.inside, f.ends)) asked.ready.arena (record { fits = omega (arith, w.ahead, w.inside, asked.ready.room.fits); few = omega (arith, w.ahead, w.inside, asked.ready.room.few) }) c.put_node.ensures

pub returns-else-i-names : goal.returns-else-i-names
returns-else-i-names c = refuses (name_unknown _ c.args.names.now _ _ c.find-f.ensures.found c.if-i-names.false)
