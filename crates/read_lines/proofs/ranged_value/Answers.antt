-- `ranged_value` meets its contract. Assumes nothing.
use native.Mathlib.Omega.{arith}
use mathlib.Core.Path.{◌≡◌, sym, ap, ◌∙◌}
use borrow.Author.Rules.{rules}
use Rattle.std.specs.Prelude.{Err}
use Rattle.read_lines.specs.Lines.{says_by, ranged_value}
use Rattle.read_bytes.proofs.Tests.{between_low, between_high}
use Rattle.read_bytes.proofs.Answers.{hand_on}
use Rattle.read_lines.proofs.KeyedLines.{range_in, range_out}
use Rattle.read_lines.proofs.ranged_value.Goals as goal

pub returns-in_err-x : goal.returns-in_err-x
unfolding ranged_value
returns-in_err-x g c =
    let refused : c.from_residual.result ≡ Err c.in_err-x.field-0.0 = search rules in
    ap (says_by g.F.Numbered.number) refused ∙ hand_on _ (sym c.in_err-x.ensures)

pub returns-then-x-lo : goal.returns-then-x-lo
unfolding ranged_value
returns-then-x-lo g c =
    range_out _ _ _ _ (sym c.in_ok-x.ensures) (between_low _ _ _ c.if-x-lo.true)

pub returns-then-hi-x : goal.returns-then-hi-x
unfolding ranged_value
returns-then-hi-x g c =
    range_out _ _ _ _ (sym c.in_ok-x.ensures) (between_high _ _ _ c.if-hi-x.true)

pub returns : goal.returns
unfolding ranged_value
returns g c =
    range_in _ _ _ _ (sym c.in_ok-x.ensures) (omega arith) (omega arith)
