-- `run_text` meets its contract. Assumes nothing.
use native.Mathlib.Omega.{arith}
use Rattle.figure_runs.proofs.Running.{text_reads, can_take, can_close, closed_long, runs_text_lem}
use Rattle.figure_runs.proofs.runs.run_text.Goals as goal

pub put_text-requires : goal.put_text-requires
put_text-requires c = (can_take c.requires.runnable.0 _ (c.fill.ensures.after (λ y e. omega arith)), c.requires.notes_at)

pub close_linked_with_tops-requires : goal.close_linked_with_tops-requires
close_linked_with_tops-requires c =
    let asked = c.requires.runnable.0 in
    let held = c.requires.of_sheet asked.opened.sheet.contents asked.opened.sheet.holds in
    let reads = held.1.1 in
    let put = c.put_text.ensures held.0 held.1.0 (text_reads asked _ reads) in
    let w = can_close asked _ (c.fill.ensures.after (λ y e. omega arith)) _ _ _ reads _ put c.requires.runnable.1 in
    record { workable = w.0; k_in_bounds = w.1 }

pub clash_in-requires : goal.clash_in-requires
clash_in-requires c =
    let asked = c.requires.runnable.0 in
    let held = c.requires.of_sheet asked.opened.sheet.contents asked.opened.sheet.holds in
    let reads = held.1.1 in
    let put = c.put_text.ensures held.0 held.1.0 (text_reads asked _ reads) in
    closed_long asked _ (c.fill.ensures.after (λ y e. omega arith)) _ _ _ reads _ put _ c.close_linked_with_tops.ensures

pub returns : goal.returns
returns c =
    let asked = c.requires.runnable.0 in
    let held = c.requires.of_sheet asked.opened.sheet.contents asked.opened.sheet.holds in
    let reads = held.1.1 in
    let put = c.put_text.ensures held.0 held.1.0 (text_reads asked _ reads) in
    runs_text_lem asked _ (c.fill.ensures.after (λ y e. omega arith)) _ _ _ reads _ put _ c.close_linked_with_tops.ensures _ c.clash_in.ensures
