-- `open_sheet` meets its contract. Assumes nothing.
use borrow.Author.Rules.{rules}
use native.Mathlib.Omega.{arith}
use mathlib.Core.Path.{◌≡◌, sym, subst}
use lib.ListN.{length-take}
use Rattle.std.specs.Prelude.{Err}
use Rattle.read_sheet.proofs.Wholes.{sheet_long, refused_head}
use Rattle.open_sheet.specs.OpenedSheet.{SheetOpens}
use Rattle.open_sheet.proofs.Sheets.{in_refused, legible, rule_refused, more_follow, not_fitting, fitting}
use Rattle.open_sheet.proofs.open_sheet.Goals as goal

pub returns-then-s-gt-BYTES : goal.returns-then-s-gt-BYTES
returns-then-s-gt-BYTES c = in_refused _ (sheet_long _ c.if-s-gt-BYTES.true)

pub returns-in_err-heading : goal.returns-in_err-heading
returns-in_err-heading c =
    let refused : c.from_residual.result ≡ Err c.in_err-heading.field-0.0 = search rules in
    subst (SheetOpens _ _ _ _) (sym refused) (in_refused _ (refused_head _ c.if-s-gt-BYTES.false c.in_err-heading.ensures))

pub overflow_add-signals : goal.overflow_add-signals
overflow_add-signals c = let h = c.in_ok-heading.ensures in omega (arith, h.sizes.signals_high)

pub slice_bounds-lower_rules-end : goal.slice_bounds-lower_rules-end
slice_bounds-lower_rules-end c = let h = c.in_ok-heading.ensures in omega (arith, h.put.room, h.put.few)

pub slice_bounds-lower_rules-end-2 : goal.slice_bounds-lower_rules-end-2
slice_bounds-lower_rules-end-2 c = let h = c.in_ok-heading.ensures in simp length-take (omega (arith, h.put.room, h.put.few))

pub lower_rules-requires : goal.lower_rules-requires
lower_rules-requires c = (legible c.if-s-gt-BYTES.false c.in_ok-heading.ensures, c.requires.room)

pub returns-in_err-lines : goal.returns-in_err-lines
returns-in_err-lines c =
    let refused : c.from_residual-in_err-lines.result ≡ Err c.in_err-lines.field-0.0 = search rules in
    subst (SheetOpens _ _ _ _) (sym refused) (rule_refused c.if-s-gt-BYTES.false c.in_ok-heading.ensures c.in_err-lines.ensures)

pub returns-then-lines-s : goal.returns-then-lines-s
returns-then-lines-s c = more_follow c.if-s-gt-BYTES.false c.in_ok-heading.ensures _ c.in_ok-lines.ensures c.if-lines-s.true

pub returns-in_default : goal.returns-in_default
returns-in_default c = not_fitting c.if-s-gt-BYTES.false c.in_ok-heading.ensures _ c.in_ok-lines.ensures c.if-lines-s.false c.in_default.is

pub returns : goal.returns
returns c = (c.in_ok-heading.ensures.put, fitting c.if-s-gt-BYTES.false c.in_ok-heading.ensures _ c.in_ok-lines.ensures c.if-lines-s.false _ c.in-Some.is)
