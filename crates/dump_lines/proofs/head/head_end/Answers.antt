-- `head_end` meets its contract. Assumes nothing.
use borrow.Author.Rules.{rules}
use mathlib.Core.Path.{◌≡◌, sym, ap, ◌∙◌}
use Rattle.std.specs.Prelude.{Err}
use Rattle.read_bytes.proofs.Answers.{hand_on}
use Rattle.read_lines.proofs.Stays.{Any, stays_got}
use Rattle.spec_dump.specs.DumpLines.{head_end}
use Rattle.dump_lines.specs.PlaceSays.{place_says}
use Rattle.dump_lines.proofs.HeadTexts.{go_on}
use Rattle.dump_lines.proofs.HeadPlaces.{texts_stay}
use Rattle.dump_lines.proofs.head.head_end.Goals as goal

pub returns-in_err-q : goal.returns-in_err-q
unfolding head_end
returns-in_err-q c =
    let refused : c.from_residual.result ≡ Err c.in_err-q.field-0.0 = search rules in
    ap (place_says 0) refused ∙ hand_on _ (sym c.in_err-q.ensures)

pub this_line-requires-2 : goal.this_line-requires-2
this_line-requires-2 c = (stays_got Any _ (texts_stay _ _ c.requires _ _) (sym c.in_ok-q.ensures)).1

pub returns-in_err-r : goal.returns-in_err-r
unfolding head_end
returns-in_err-r c =
    let refused : c.from_residual-in_err-r.result ≡ Err c.in_err-r.field-0.0 = search rules in
    ap (place_says 0) refused ∙ go_on _ (sym c.in_ok-q.ensures) (hand_on _ (sym c.in_err-r.ensures))

pub this_line-requires-3 : goal.this_line-requires-3
this_line-requires-3 c =
    let q = (stays_got Any _ (texts_stay _ _ c.requires _ _) (sym c.in_ok-q.ensures)).1 in
    (stays_got Any _ (texts_stay _ _ q _ _) (sym c.in_ok-r.ensures)).1

pub returns : goal.returns
unfolding head_end
returns c = go_on _ (sym c.in_ok-q.ensures) (go_on _ (sym c.in_ok-r.ensures) c.this_line-3.ensures)
