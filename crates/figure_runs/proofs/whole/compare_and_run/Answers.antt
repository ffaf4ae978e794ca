-- `compare_and_run` meets its contract. Assumes nothing.
use native.Mathlib.Omega.{arith}
use mathlib.Core.Path.{sym, ◌∙◌}
use lib.ListN.{length-drop}
use Rattle.read_index.specs.Index.{links}
use Rattle.figure_runs.proofs.OpenedSheets.{words_few}
use Rattle.figure_runs.proofs.Outcomes.{refused_15, refused_18, refused_19, of_texts, not_fitting}
use Rattle.figure_runs.proofs.whole.compare_and_run.Goals as goal

pub overflow_mul-z-2 : goal.overflow_mul-z-2
overflow_mul-z-2 c = omega (arith, words_few c.requires.0)

pub returns-then-table-z : goal.returns-then-table-z
returns-then-table-z c = refused_15 c.requires.0 _ _ _ _ c.if-table-z.true

pub returns-then-m-names : goal.returns-then-m-names
returns-then-m-names c =
    let many = length-drop links c.args.names.now in
    refused_18 c.requires.0 _ _ _ _ c.if-table-z.false (λ e. c.if-m-names.true (e ∙ many))

pub returns-then-not-lengths_fit : goal.returns-then-not-lengths_fit
returns-then-not-lengths_fit c =
    let many = length-drop links c.args.names.now in
    refused_19 c.requires.0 _ _ _ _ c.if-table-z.false (c.if-m-names.false ∙ sym many) (not_fitting c.lengths_fit.ensures (c.if-not-lengths_fit.true))

pub run_opened-requires : goal.run_opened-requires
run_opened-requires c = record { opened_for = (c.requires.0, c.if-table-z.false); lengths_fit = (c.lengths_fit.ensures.0 (c.if-not-lengths_fit.false), c.requires.1) }

pub returns : goal.returns
returns c =
    let many = length-drop links c.args.names.now in
    of_texts c.requires.0 _ _ _ _ c.if-table-z.false (c.if-m-names.false ∙ sym many) (c.lengths_fit.ensures.0 (c.if-not-lengths_fit.false)) (omega (arith, c.requires.1)) c.run_opened.ensures
