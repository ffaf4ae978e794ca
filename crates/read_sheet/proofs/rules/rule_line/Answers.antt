-- `rule_line` meets its contract. Assumes nothing.
use borrow.Author.Rules.{rules}
use mathlib.Core.Path.{◌≡◌, sym}
use Rattle.std.specs.Prelude.{Err}
use Rattle.read_sheet.specs.Sheet.{rule_line}
use Rattle.read_sheet.proofs.Ruled.{line_ended, line_ready}
use Rattle.read_sheet.proofs.rules.rule_line.Goals as goal

pub returns-in_err-v : goal.returns-in_err-v
unfolding rule_line
returns-in_err-v c =
    let e : c.from_residual.result ≡ Err c.in_err-v.field-0.0 = search rules in
    rw e (rw (← c.in_err-v.ensures))

pub rule_to-requires : goal.rule_to-requires
rule_to-requires c =
    let line = sym c.in_ok-v.ensures in
    record { ready = line_ready _ _ line c.requires; ended = line_ended _ _ line }

pub returns : goal.returns
unfolding rule_line
returns c = rw (← c.in_ok-v.ensures) c.rule_to.ensures
