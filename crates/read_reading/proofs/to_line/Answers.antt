-- `to_line` meets its contract. Assumes nothing.
use native.Mathlib.Omega.{arith}
use mathlib.Core.Path.{◌≡◌, refl, sym, ap, ◌∙◌}
use borrow.Author.Rules.{rules}
use Rattle.std.specs.Prelude.{Err}
use Rattle.read_lines.specs.Lines.{says}
use Rattle.read_lines.proofs.ValueFirst.{keyed_is, ranged_keyed, ranged_unkeyed}
use Rattle.read_reading.proofs.Lines.{to_refused, to_is, to_below}
use Rattle.read_reading.proofs.to_line.Goals as goal

pub returns-then-not-keyed : goal.returns-then-not-keyed
returns-then-not-keyed c = to_refused _ _ _ _ (ranged_unkeyed _ _ _ _ 13 _ _ (sym c.keyed.ensures ∙ c.if-not-keyed.true)) refl

pub ranged_value-requires : goal.ranged_value-requires
ranged_value-requires c = (keyed_is _ _ _ (sym c.keyed.ensures ∙ c.if-not-keyed.false)).0

pub returns-in_err-last : goal.returns-in_err-last
returns-in_err-last c =
    let refused : c.from_residual.result ≡ Err c.in_err-last.field-0.0 = search rules in
    ap says refused ∙ to_refused _ _ _ _ (ranged_keyed _ _ _ _ _ _ _ (sym c.keyed.ensures ∙ c.if-not-keyed.false) ∙ sym c.in_err-last.ensures) (omega arith)

pub returns-then-first-last : goal.returns-then-first-last
returns-then-first-last c =
    to_is _ _ _ _ (ranged_keyed _ _ _ _ _ _ _ (sym c.keyed.ensures ∙ c.if-not-keyed.false) ∙ sym c.in_ok-last.ensures) (omega arith) (omega arith)

pub returns-else-first-last : goal.returns-else-first-last
returns-else-first-last c =
    to_below _ _ _ _ (ranged_keyed _ _ _ _ _ _ _ (sym c.keyed.ensures ∙ c.if-not-keyed.false) ∙ sym c.in_ok-last.ensures) (omega arith) (omega arith)
