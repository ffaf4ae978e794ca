-- `no_name` meets its contract. Assumes nothing.
use mathlib.Core.Path.{◌≡◌, sym, ap, ◌∙◌}
use borrow.Author.Rules.{rules}
use Rattle.std.specs.Prelude.{Err}
use Rattle.read_lines.specs.Lines.{says_by, name_line}
use Rattle.read_bytes.proofs.Answers.{hand_on}
use Rattle.read_lines.proofs.ValueFirst.{name_not_whole}
use Rattle.read_lines.proofs.no_name.Goals as goal

pub returns-in_err-v : goal.returns-in_err-v
unfolding name_line
returns-in_err-v g c =
    let refused : c.from_residual.result ≡ Err c.in_err-v.field-0.0 = search rules in
    ap (says_by g.F.Numbered.number) refused ∙ hand_on _ (sym c.in_err-v.ensures)

pub returns : goal.returns
returns g c =
    name_not_whole _ _ _ _ _ (sym c.in_ok-v.ensures) c.requires.1
