-- `unknown_line` meets its contract. Assumes nothing.
use mathlib.Core.Path.{◌≡◌, sym, ap, ◌∙◌}
use borrow.Author.Rules.{rules}
use Rattle.std.specs.Prelude.{Err}
use Rattle.read_lines.specs.Lines.{says}
use Rattle.read_bytes.proofs.Answers.{hand_on}
use Rattle.read_reading.specs.OneEntry.{known_line}
use Rattle.read_reading.proofs.Lines.{name_place, known_is, known_not}
use Rattle.read_reading.proofs.unknown_line.Goals as goal

pub returns-in_err-name : goal.returns-in_err-name
unfolding known_line
returns-in_err-name c =
    let refused : c.from_residual.result ≡ Err c.in_err-name.field-0.0 = search rules in
    ap says refused ∙ hand_on _ (sym c.in_err-name.ensures)

pub find-found-requires : goal.find-found-requires
find-found-requires c = (c.requires.0, name_place _ _ _ _ _ (sym c.in_ok-name.ensures))

pub returns-then-found-names : goal.returns-then-found-names
returns-then-found-names c = known_is _ c.args.names.now _ _ (sym c.in_ok-name.ensures) _ c.find-found.ensures.found c.if-found-names.true

pub returns-else-found-names : goal.returns-else-found-names
returns-else-found-names c = known_not _ c.args.names.now _ _ (sym c.in_ok-name.ensures) _ c.find-found.ensures.found c.if-found-names.false
