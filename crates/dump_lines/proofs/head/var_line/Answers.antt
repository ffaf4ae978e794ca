-- `var_line` meets its contract. Assumes nothing.
use native.Mathlib.Omega.{arith}
use mathlib.Core.Path.{◌≡◌, sym, ap, ◌∙◌}
use borrow.Author.Rules.{rules}
use Rattle.std.specs.Prelude.{Err}
use Rattle.read_bytes.proofs.Answers.{hand_on}
use Rattle.spec_dump.specs.DumpLines.{var_line}
use Rattle.dump_lines.specs.PlaceSays.{place_says}
use Rattle.dump_lines.proofs.VarForms.{form_said}
use Rattle.dump_lines.proofs.VarNames.{var_open, var_is, var_other, var_none}
use Rattle.dump_lines.proofs.head.var_line.Goals as goal

pub returns-in_err-v : goal.returns-in_err-v
unfolding var_line
returns-in_err-v c =
    let refused : c.from_residual.result ≡ Err c.in_err-v.field-0.0 = search rules in
    ap (place_says c.args.x) refused ∙ hand_on _ (sym c.in_err-v.ensures)

pub find-f-requires : goal.find-f-requires
find-f-requires c =
    let a = sym c.in_ok-v.ensures in
    let h = form_said _ _ _ a in
    (c.requires.0, omega (arith, h.0.long, h.1))

pub overflow_sub-e : goal.overflow_sub-e
overflow_sub-e c =
    let a = sym c.in_ok-v.ensures in
    omega (arith, (form_said _ _ _ a).0.room)

pub returns-then-f-e : goal.returns-then-f-e
returns-then-f-e c =
    let a = sym c.in_ok-v.ensures in
    var_open c.args.s.now c.args.names.now _ _ _ a c.find-f.ensures c.requires.1 c.if-f-e.true

pub overflow_add-result : goal.overflow_add-result
overflow_add-result c =
    let a = sym c.in_ok-v.ensures in
    omega (arith, (form_said _ _ _ a).0.inside)

pub returns-then-f-x : goal.returns-then-f-x
returns-then-f-x c =
    let a = sym c.in_ok-v.ensures in
    var_is c.args.s.now c.args.names.now _ _ _ a c.find-f.ensures c.if-f-e.false c.if-f-x.true

pub returns-then-f-names : goal.returns-then-f-names
returns-then-f-names c =
    let a = sym c.in_ok-v.ensures in
    var_other c.args.s.now c.args.names.now _ _ _ a c.find-f.ensures c.if-f-e.false c.if-f-x.false c.if-f-names.true

pub returns-else-f-names : goal.returns-else-f-names
returns-else-f-names c =
    let a = sym c.in_ok-v.ensures in
    var_none c.args.s.now c.args.names.now _ _ _ a c.find-f.ensures c.if-f-e.false c.if-f-x.false c.if-f-names.false
