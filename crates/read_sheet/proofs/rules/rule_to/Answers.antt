-- `rule_to` meets its contract. Assumes nothing.
use borrow.Author.Rules.{rules}
use native.Mathlib.Omega.{arith}
use mathlib.Core.Logic.{⊎_elim}
use lib.ListN.{length-take}
use Rattle.read_sheet.proofs.Ruled.{rule_short, rule_long, rule_ready, rule_read, rule_refused}
use Rattle.read_sheet.proofs.rules.rule_to.Goals as goal

pub returns-then-n-lt1 : goal.returns-then-n-lt1
returns-then-n-lt1 c = ⊎_elim (rule_short _ _ _ _) (λ h. rule_long _ _ _ _ h.1) c.then-n-lt1.either

pub slice_bounds-rule-end : goal.slice_bounds-rule-end
slice_bounds-rule-end c = simp length-take (omega arith)

pub rule-requires : goal.rule-requires
rule-requires c =
    let asked = c.requires in
    rule_ready _ _ _ _ _ _ asked.ready asked.ended (omega arith)

pub returns-in_err-part : goal.returns-in_err-part
returns-in_err-part c =
    let asked = c.requires in
    rule_refused _ _ _ _ _ _ asked.ready asked.ended (omega arith) _ (omega arith) c.in_err-part.ensures (search rules)

pub returns : goal.returns
returns c =
    let asked = c.requires in
    rule_read _ _ _ _ _ _ asked.ready asked.ended (omega arith) _ (omega arith) c.in_ok-part.ensures
