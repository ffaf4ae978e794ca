-- `figures_in_words` meets its contract. Assumes nothing.
use borrow.Author.Rules.{rules}
use mathlib.Core.Path.{◌≡◌, refl, sym, subst}
use Rattle.std.specs.Prelude.{Err}
use Rattle.open_sheet.specs.Results.{refused}
use Rattle.open_sheet.proofs.Buffers.{fresh}
use Rattle.open_table.proofs.Tables.{window_range}
use Rattle.spec_figures.specs.Figures.Figures.{not_opened}
use Rattle.figure_runs.specs.FigureWords.{FiguresInWords}
use Rattle.figure_runs.proofs.whole.figures_in_words.Goals as goal

pub open_sheet-requires : goal.open_sheet-requires
open_sheet-requires c = fresh

pub words_of-n-requires : goal.words_of-n-requires
words_of-n-requires c =
    let h = c.in_ok-sheet.ensures in
    (window_range h.1).1

pub compare_and_run-requires : goal.compare_and_run-requires
compare_and_run-requires c =
    let h = c.in_ok-sheet.ensures in
    (record { sheet = h.1; index = h.0.index; words_are = c.words_of-n.ensures }, c.requires)

pub returns-in_err-sheet : goal.returns-in_err-sheet
returns-in_err-sheet c =
    let refusal : c.from_residual.result ≡ Err c.in_err-sheet.field-0.0 = search rules in
    rw refusal (record { answer = refused _ _; figures = not_opened c.in_err-sheet.ensures refl; says = refl; holds = tt })
