-- `lower_rules` meets its contract. Assumes nothing.
use native.Mathlib.Omega.{arith}
use mathlib.Core.Path.{◌≡◌, sym, subst, ◌∙◌}
use mathlib.Core.Logic.{inl}
use Rattle.lower_sheet.specs.SheetRows.FitOrOver.{over}
use borrow.Author.Rules.{rules}
use Rattle.std.specs.Prelude.{Ok, Err}
use Rattle.lower_sheet.specs.SheetRows.{RulesStand}
use Rattle.lower_rows.specs.RowCodes.{packed, row_code}
use Rattle.lower_sheet.proofs.Blanking.{all_blank}
use Rattle.lower_sheet.proofs.Standing.{same_hidden, stands}
use Rattle.lower_sheet.proofs.whole.lower_rules.Goals as goal

pub returns-in_err-read : goal.returns-in_err-read
returns-in_err-read c =
    let refused : c.from_residual.result ≡ Err c.in_err-read.field-0.0 = search rules in
    subst (RulesStand _ _ _) (sym refused) c.in_err-read.ensures

pub returns-then-read-guess : goal.returns-then-read-guess
returns-then-read-guess c =
    stands _ _ _ _ c.requires.0 _ _ c.requires.1 c.guess_hidden-guess.ensures (λ h q v. same_hidden v c.in_ok-read.ensures.0 ∙ c.if-read-guess.true) (Ok _) c.in_ok-read.ensures

pub returns-then-read-gt-HIDDEN : goal.returns-then-read-gt-HIDDEN
returns-then-read-gt-HIDDEN c = (c.in_ok-read.ensures.0, over (inl c.if-read-gt-HIDDEN.true))

pub read_rules-requires-2 : goal.read_rules-requires-2
read_rules-requires-2 c =
    let given = c.requires in
    record { legible = (given.0, omega arith); full_size = record { long = omega (arith, given.1.long); wide = omega (arith, given.1.wide) } }

pub returns : goal.returns
unfolding row_code packed
returns c =
    let sizes = c.requires.1 in
    stands _ _ _ _ c.requires.0 _ _ (record { blank = all_blank _ _ (c.fill.ensures.after (λ y e. omega arith)); long = omega (arith, sizes.long); wide = omega (arith, sizes.wide) }) c.if-read-gt-HIDDEN.false (λ h q v. same_hidden v c.in_ok-read.ensures.0) _ c.read_rules-2.ensures
