-- `open_table` meets its contract. Assumes nothing.
use native.Mathlib.Omega.{arith}
use borrow.Author.Rules.{rules}
use mathlib.Core.Path.{◌≡◌, refl, sym, ◌∙◌, subst}
use Rattle.std.specs.Prelude.{Err}
use Rattle.open_table.specs.OpenedTable.{TableOpens}
use mathlib.Core.Bool.{true≢false}
use Rattle.open_table.specs.Opens.Opens.{not_the_sheet}
use Rattle.open_table.proofs.Tables.{window_range, words_most, wrong_length, outside, within}
use Rattle.open_table.proofs.open_table.Goals as goal

pub returns-in_err-sheet : goal.returns-in_err-sheet
returns-in_err-sheet c =
    let refused : c.from_residual.result ≡ Err c.in_err-sheet.field-0.0 = search rules in
    subst (TableOpens _ _ _ _ _) (sym refused) (not_the_sheet c.in_err-sheet.ensures)

pub words_of-n-requires : goal.words_of-n-requires
words_of-n-requires c = let k = c.in_ok-sheet.ensures.1 in (words_most k _ refl).0

pub overflow_mul-sheet : goal.overflow_mul-sheet
overflow_mul-sheet c = let k = c.in_ok-sheet.ensures.1 in omega (arith, (words_most k _ refl).1)

pub overflow_mul-sheet-2 : goal.overflow_mul-sheet-2
overflow_mul-sheet-2 c =
    let k = c.in_ok-sheet.ensures.1 in
    omega (arith, (words_most k _ c.words_of-n.ensures).2)

pub returns-then-table-sheet : goal.returns-then-table-sheet
returns-then-table-sheet c = let k = c.in_ok-sheet.ensures.1 in (wrong_length k _ _ c.words_of-n.ensures c.if-table-sheet.true)

pub inside_window-requires : goal.inside_window-requires
inside_window-requires c =
    let k = c.in_ok-sheet.ensures.1 in
    (c.if-table-sheet.false, (window_range k).0, c.words_of-n.ensures, omega (arith, (words_most k _ c.words_of-n.ensures).2))

pub returns-then-not-inside_window : goal.returns-then-not-inside_window
returns-then-not-inside_window c =
    let k = c.in_ok-sheet.ensures.1 in
    (outside k _ _ c.words_of-n.ensures c.if-table-sheet.false (λ i. true≢false (sym (c.inside_window.ensures.1 i) ∙ c.if-not-inside_window.true)))

pub returns : goal.returns
returns c =
    let h = c.in_ok-sheet.ensures in
    (h.0, record { sheet = h.1; table = within h.1 _ _ c.words_of-n.ensures c.if-table-sheet.false (c.inside_window.ensures.0 (c.if-not-inside_window.false)) })
