-- `head_lines` meets its contract. Assumes nothing.
use native.Mathlib.Omega.{arith}
use borrow.Author.Rules.{rules}
use mathlib.Core.Path.{◌≡◌, sym, ap, ◌∙◌}
use Rattle.std.specs.Prelude.{Err}
use Rattle.read_bytes.proofs.Answers.{hand_on}
use Rattle.read_lines.proofs.Stays.{Any, stays_got}
use Rattle.spec_dump.specs.DumpLines.{head_lines}
use Rattle.dump_lines.specs.PlaceSays.{place_says}
use Rattle.dump_lines.proofs.HeadTexts.{go_on}
use Rattle.dump_lines.proofs.HeadPlaces.{texts_stay, timescale_stays, vars_stay}
use Rattle.dump_lines.proofs.VarTurns.{vars_counted}
use Rattle.dump_lines.proofs.head.head_lines.Goals as goal

pub returns-in_err-p : goal.returns-in_err-p
unfolding head_lines
returns-in_err-p c =
    let refused : c.from_residual.result ≡ Err c.in_err-p.field-0.0 = search rules in
    ap (place_says 0) refused ∙ hand_on _ (sym c.in_err-p.ensures)

pub this_line-requires : goal.this_line-requires
this_line-requires c = (stays_got Any _ (timescale_stays _ _ (omega arith)) (sym c.in_ok-p.ensures)).1

pub returns-in_err-q : goal.returns-in_err-q
unfolding head_lines
returns-in_err-q c =
    let refused : c.from_residual-in_err-q.result ≡ Err c.in_err-q.field-0.0 = search rules in
    ap (place_says 0) refused ∙ go_on _ (sym c.in_ok-p.ensures) (hand_on _ (sym c.in_err-q.ensures))

pub var_lines-requires : goal.var_lines-requires
var_lines-requires c =
    let p = (stays_got Any _ (timescale_stays _ _ (omega arith)) (sym c.in_ok-p.ensures)).1 in
    (c.requires, (stays_got Any _ (texts_stay _ _ p _ _) (sym c.in_ok-q.ensures)).1)

pub returns-in_err-r : goal.returns-in_err-r
unfolding head_lines
returns-in_err-r c =
    let refused : c.from_residual-in_err-r.result ≡ Err c.in_err-r.field-0.0 = search rules in
    ap (place_says 0) refused ∙ go_on _ (sym c.in_ok-p.ensures) (go_on _ (sym c.in_ok-q.ensures) (hand_on _ (sym (vars_counted c.args.s.now c.args.names.now _ _ c.in_err-r.ensures))))

pub head_end-requires : goal.head_end-requires
head_end-requires c =
    let p = (stays_got Any _ (timescale_stays _ _ (omega arith)) (sym c.in_ok-p.ensures)).1 in
    let q = (stays_got Any _ (texts_stay _ _ p _ _) (sym c.in_ok-q.ensures)).1 in
    (stays_got Any _ (vars_stay _ _ _ _ _ q) (sym c.in_ok-r.ensures)).1

pub returns : goal.returns
unfolding head_lines
returns c =
    let r = vars_counted c.args.s.now c.args.names.now _ _ c.in_ok-r.ensures in
    go_on _ (sym c.in_ok-p.ensures) (go_on _ (sym c.in_ok-q.ensures) (go_on _ (sym r) c.head_end.ensures))
