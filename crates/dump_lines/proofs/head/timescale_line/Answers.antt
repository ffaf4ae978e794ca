-- `timescale_line` meets its contract. Assumes nothing.
use borrow.Author.Rules.{rules}
use mathlib.Core.Path.{◌≡◌, sym, ap, ◌∙◌}
use Rattle.std.specs.Prelude.{Err}
use Rattle.read_bytes.proofs.Answers.{hand_on}
use Rattle.read_lines.proofs.Stays.{Any, stays_got}
use Rattle.spec_dump.specs.DumpLines.{timescale_line}
use Rattle.dump_lines.specs.PlaceSays.{place_says}
use Rattle.dump_lines.proofs.HeadTexts.{go_on}
use Rattle.dump_lines.proofs.HeadPlaces.{texts_stay}
use Rattle.dump_lines.proofs.head.timescale_line.Goals as goal

pub returns-in_err-q : goal.returns-in_err-q
unfolding timescale_line
returns-in_err-q c =
    let refused : c.from_residual.result ≡ Err c.in_err-q.field-0.0 = search rules in
    ap (place_says 0) refused ∙ hand_on _ (sym c.in_err-q.ensures)

pub one_of_texts-requires-2 : goal.one_of_texts-requires-2
one_of_texts-requires-2 c = (stays_got Any _ (texts_stay _ _ c.requires _ _) (sym c.in_ok-q.ensures)).1

pub returns-in_err-r : goal.returns-in_err-r
unfolding timescale_line
returns-in_err-r c =
    let refused : c.from_residual-in_err-r.result ≡ Err c.in_err-r.field-0.0 = search rules in
    ap (place_says 0) refused ∙ go_on _ (sym c.in_ok-q.ensures) (hand_on _ (sym c.in_err-r.ensures))

pub one_of_texts-requires-3 : goal.one_of_texts-requires-3
one_of_texts-requires-3 c = (stays_got Any _ (texts_stay _ _ c.requires _ _) (sym c.in_ok-r.ensures)).1

pub returns : goal.returns
unfolding timescale_line
returns c = go_on _ (sym c.in_ok-q.ensures) (go_on _ (sym c.in_ok-r.ensures) c.one_of_texts-3.ensures)
