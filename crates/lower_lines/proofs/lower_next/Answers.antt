-- `lower_next` meets its contract. Assumes nothing.
use native.Mathlib.Omega.{arith}
use mathlib.Core.Bool.{true}
use lib.ListN.{length-map}
use Rattle.spec_tilco.specs.Lowering.{lowered}
use Rattle.read_arena.specs.NodeRules.{definings_at}
use Rattle.lower_rule.specs.RuleRows.{whole_at}
use Rattle.lower_lines.proofs.Trying.{room_next, follows_full, follows_over, follows_more}
use Rattle.lower_lines.proofs.lower_next.Goals as goal

pub returns-in_err-last : goal.returns-in_err-last
returns-in_err-last c = rw (c.in_err-last.was, c.from_residual.ensures) (follows_full (whole_at c.args.arena.now c.args.node) _ _)

pub overflow_sub-tops : goal.overflow_sub-tops
overflow_sub-tops c =
    let h = room_next _ c.in_ok-last.was c.requires.room_in in omega (arith, h.tops_in)

pub returns-then-tops-last : goal.returns-then-tops-last
returns-then-tops-last c =
    rw c.in_ok-last.was
    (follows_over (whole_at c.args.arena.now c.args.node) _ _ _
    (omega (arith, (room_next _ c.in_ok-last.was c.requires.room_in).tops_in, c.if-tops-last.true, length-map (definings_at c.args.arena.now c.args.node) (lowered true), c.requires.rule_in.hidden)))

pub lower_whole_rule-requires : goal.lower_whole_rule-requires
lower_whole_rule-requires c =
    let given = c.requires in
    let h = room_next _ c.in_ok-last.was given.room_in in
    record { rule_in = given.rule_in; tops_free = omega (arith, h.tops_in, c.if-tops-last.false); row_buffer = h.buffer }

pub returns : goal.returns
returns c =
    rw c.in_ok-last.was
    (follows_more (whole_at c.args.arena.now c.args.node) _ _ _
    (omega (arith, (room_next _ c.in_ok-last.was c.requires.room_in).tops_in, c.if-tops-last.false, length-map (definings_at c.args.arena.now c.args.node) (lowered true), c.requires.rule_in.hidden))
    _ c.lower_whole_rule.ensures)
