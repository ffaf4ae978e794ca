-- `read_rules` meets its contract. The invariant: the rules read so far are lowered as far as there was room. Assumes nothing.
use native.Mathlib.Omega.{arith}
use borrow.Author.Rules.{rules}
use mathlib.Core.Path.{◌≡◌, refl, sym, subst}
use Rattle.std.specs.Prelude.{Err}
use Rattle.lower_lines.specs.InTurn.{RulesRead}
use mathlib.Core.List.{[]}
use Rattle.read_sheet.proofs.Ruled.{passed_off}
use Rattle.lower_lines.proofs.Trying.{tried_room}
use Rattle.lower_lines.proofs.Underway.{rule_in, underway_none, line_ready, underway_one, underway_all}
use Rattle.lower_lines.proofs.read_rules.Goals as goal

pub overflow_sub-signals : goal.overflow_sub-signals
overflow_sub-signals c = omega (arith, c.requires.legible.0.index.long)

pub overflow_add-lowered : goal.overflow_add-lowered
overflow_add-lowered c =
    omega (arith, c.requires.legible.0.index.few)

pub loop-i-init : goal.loop-i-init
loop-i-init c =
    ([], underway_none _ c.requires.legible.0.within (omega (arith, c.requires.legible.0.index.few)), refl)

pub rule_line-requires : goal.rule_line-requires
rule_line-requires c =
    line_ready _ c.loop-i.invariant.1 c.requires.legible.0 _ c.loop-i.invariant.2

pub overflow_sub-rule : goal.overflow_sub-rule
overflow_sub-rule c =
    omega (arith, c.in_ok-rule.ensures.some)

pub overflow_sub-own : goal.overflow_sub-own
overflow_sub-own c =
    omega (arith, c.in_ok-rule.ensures.next)

pub lower_next-lowered-requires : goal.lower_next-lowered-requires
lower_next-lowered-requires c =
    let k = c.loop-i.invariant.1 in
    record { rule_in = rule_in c.in_ok-rule.ensures; room_in = tried_room (omega (arith, k.long)) k.tried }

pub loop-i-preserved : goal.loop-i-preserved
loop-i-preserved c =
    let w = c.in_ok-rule.ensures in
    (_, underway_one _ c.loop-i.invariant.1 c.loop-i-test.true w _ _ (omega arith) (omega arith) c.lower_next-lowered.ensures, omega arith)

pub returns-in_err-rule : goal.returns-in_err-rule
returns-in_err-rule c =
    let k = c.loop-i.invariant.1 in
    let refused : c.from_residual.result ≡ Err c.in_err-rule.field-0.0 = search rules in
    subst (RulesRead _ _ _ _ _) (sym refused) (passed_off _ _ _ _ k.passed c.loop-i-test.true c.in_err-rule.ensures)

pub overflow_sub-result : goal.overflow_sub-result
overflow_sub-result c = omega (arith, c.loop-i.invariant.1.row)

pub shape_of-tops : goal.shape_of-tops
shape_of-tops c = c.loop-i.invariant.1.wide

pub shape_of-out : goal.shape_of-out
shape_of-out c = c.loop-i.invariant.1.long

pub returns : goal.returns
returns c = underway_all _ c.loop-i.invariant.1 (omega arith)
