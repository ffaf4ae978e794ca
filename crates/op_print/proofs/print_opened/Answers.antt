-- `print_opened` meets its contract. Assumes nothing.
use native.Mathlib.Omega.{arith}
use Rattle.op_print.proofs.Outcomes.{line_inside, short_text, lines_are, no_refusal, first_inside, few_rules, past_last, rule_there, gives_line}
use Rattle.op_print.proofs.print_opened.Goals as goal

pub overflow_add-line : goal.overflow_add-line
overflow_add-line c =
    omega (arith, line_inside c.requires c.line_end-line.ensures, short_text c.requires)

pub ranged_line-requires : goal.ranged_line-requires
ranged_line-requires c =
    omega (arith, line_inside c.requires c.line_end-line.ensures)

pub returns-in_err-rules : goal.returns-in_err-rules
returns-in_err-rules c =
    absurd (no_refusal c.requires c.line_end-line.ensures c.in_err-rules.ensures)

pub returns-then-rules-rule : goal.returns-then-rules-rule
returns-then-rules-rule c =
    past_last (lines_are c.requires c.line_end-line.ensures c.in_ok-rules.ensures) c.if-rules-rule.true _

pub line_of-at-requires : goal.line_of-at-requires
line_of-at-requires c =
    let x = lines_are c.requires c.line_end-line.ensures c.in_ok-rules.ensures in
    (first_inside x, x.short, omega (arith, few_rules x))

pub print_line-requires : goal.print_line-requires
print_line-requires c =
    rule_there (lines_are c.requires c.line_end-line.ensures c.in_ok-rules.ensures) (omega arith) c.line_of-at.ensures

pub returns : goal.returns
returns c =
    gives_line (lines_are c.requires c.line_end-line.ensures c.in_ok-rules.ensures) (omega arith) c.line_of-at.ensures c.print_line.ensures
