-- `check_and_run` meets its contract. Assumes nothing.
use native.Mathlib.Omega.{arith}
use borrow.Author.Rules.{rules}
use mathlib.Core.Path.{◌≡◌}
use Rattle.std.specs.Prelude.{Err}
use Rattle.spec_limits.specs.Limits.{most_rows}
use Rattle.spec_tilco.specs.Lowering.{program}
use Rattle.close_parents.proofs.Linking.{no_lists}
use Rattle.read_sheet.specs.Sheet.{meant}
use Rattle.read_index.proofs.Places.{places_part_lem}
use Rattle.open_table.proofs.Tables.{row_range}
use Rattle.figure_runs.proofs.OpenedSheets.{can_note, names_stand_there}
use Rattle.figure_runs.proofs.Outcomes.{when_all_noted, when_refused, all_runnable, texts_run, texts_refused}
use Rattle.figure_runs.proofs.opened.check_and_run.Goals as goal

pub note_texts-requires : goal.note_texts-requires
note_texts-requires c = record { can_note = (can_note c.requires.runnable.opened _ (omega arith), c.requires.lengths_fit.0); lengths_in_bounds = omega (arith, c.requires.lengths_fit.0.few) }

pub start_in_order-requires : goal.start_in_order-requires
start_in_order-requires c = (names_stand_there c.requires.runnable.opened (places_part_lem c.args.names.now), c.requires.lengths_fit.1)

pub link_rows-requires : goal.link_rows-requires
link_rows-requires c =
    let o = c.requires.runnable.opened.sheet in
    record { coded = (record { program = program (meant o.contents); codes = o.codes }, row_range o); count_in_bounds = (omega (arith, row_range o), omega (arith, row_range o), λ x l. no_lists most_rows x) }

pub run_texts-requires : goal.run_texts-requires
run_texts-requires c =
    let noted = when_all_noted c.in_ok-note_texts.ensures in
    let all = all_runnable c.requires.runnable c.link_rows.ensures c.requires.lengths_fit.0 noted (omega (arith, c.requires.lengths_fit.0.few)) (places_part_lem c.args.names.now) c.start_in_order.ensures.0 c.start_in_order.ensures.1 in
    all

pub returns : goal.returns
returns c = texts_run c.requires.runnable.opened (when_all_noted c.in_ok-note_texts.ensures) c.run_texts.ensures

pub returns-in_err-note_texts : goal.returns-in_err-note_texts
returns-in_err-note_texts c =
    let refused : c.from_residual.result ≡ Err c.in_err-note_texts.field-0.0 = search rules in
    texts_refused c.requires.runnable.opened (when_refused c.in_err-note_texts.ensures) refused
