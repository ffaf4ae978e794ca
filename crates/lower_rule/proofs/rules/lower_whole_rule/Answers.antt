-- `lower_whole_rule` meets its contract. Assumes nothing.
use mathlib.Core.Path.{◌∙◌}
use mathlib.Core.List.{[], ◌∷◌}
use native.Mathlib.Omega.{arith}
use Rattle.read_arena.specs.NodeRules.{form_at, definings_at}
use Rattle.lower_rows.proofs.Runs.{buffer_on}
use Rattle.lower_rule.proofs.InTurn.{went_all, all_full, all_then, one_alone}
use Rattle.lower_rule.proofs.rules.lower_whole_rule.Goals as goal

pub returns-in_err-own : goal.returns-in_err-own
returns-in_err-own c = rw c.from_residual.ensures (all_full (_ ∷ []) _ _ _ _ _ _ c.in_err-own.ensures)

pub returns-then-hidden-eq0 : goal.returns-then-hidden-eq0
returns-then-hidden-eq0 c =
    one_alone (form_at c.args.arena.now c.args.node) (definings_at c.args.arena.now c.args.node) (c.requires.rule_in.hidden ∙ c.if-hidden-eq0.true) _ _ _ _ _ c.in_ok-own.ensures

pub lower_definings-requires : goal.lower_definings-requires
lower_definings-requires c =
    let W = went_all c.in_ok-own.ensures in
    let given = c.requires in
    record { node_in = given.rule_in.stands; tops_free = omega (arith, given.rule_in.hidden, given.tops_free); row_buffer = buffer_on given.row_buffer W.room W.long }

pub returns : goal.returns
returns c = all_then (_ ∷ []) _ _ _ _ _ _ c.in_ok-own.ensures _ _ c.lower_definings.ensures
