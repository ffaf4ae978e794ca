-- `run_texts` meets its contract. The invariant: the first i texts are run and counted. Assumes nothing.
use native.Mathlib.Omega.{arith}
use mathlib.Core.Path.{refl, sym}
use lib.ListN.{length-drop}
use Rattle.read_index.specs.Index.{links}
use Rattle.figure_texts.proofs.Sums.{sum_more, end_inside}
use Rattle.figure_runs.proofs.TextRuns.{still_runnable, reached_start, reached_none, next_notes, next_holds, next_countable, reached_more, reached_all}
use Rattle.figure_runs.proofs.runs.run_texts.Goals as goal

pub returns-then-lengths-eq0 : goal.returns-then-lengths-eq0
returns-then-lengths-eq0 c = reached_none c.requires (omega (arith, c.if-lengths-eq0.true)) (c.fill.ensures.after (λ y e. omega arith))

pub loop-i-init : goal.loop-i-init
loop-i-init c = (refl, refl, refl, refl, refl, reached_start c.requires)

pub overflow_add-end : goal.overflow_add-end
overflow_add-end c = omega (arith, c.loop-i.invariant.3, end_inside c.requires.fit c.loop-i.i c.loop-i-test.true)

pub slice_bounds-run_text-end : goal.slice_bounds-run_text-end
slice_bounds-run_text-end c = omega (arith, c.loop-i.invariant.3, end_inside c.requires.fit c.loop-i.i c.loop-i-test.true)

pub run_text-clash-requires : goal.run_text-clash-requires
run_text-clash-requires c =
    let asked = c.requires in
    let kept = c.loop-i.invariant in
    let next = c.loop-i-test.true in
    record { runnable = (still_runnable asked kept.0 kept.1, asked.linked); notes_at = next_notes asked next kept.3 kept.4; of_sheet = next_holds asked next kept.3 kept.4 }

pub count_run-requires : goal.count_run-requires
count_run-requires c =
    let asked = c.requires in
    let kept = c.loop-i.invariant in
    let next = c.loop-i-test.true in
    next_countable asked next kept.3 kept.4 (sym (length-drop links c.args.names.now)) kept.5 c.run_text-clash.ensures (omega (arith, asked.room, kept.2))

pub loop-i-preserved : goal.loop-i-preserved
loop-i-preserved c =
    let asked = c.requires in
    let kept = c.loop-i.invariant in
    let next = c.loop-i-test.true in
    let more = reached_more asked next kept.3 kept.4 (sym (length-drop links c.args.names.now)) kept.5 c.run_text-clash.ensures c.count_run.ensures in
    (omega (arith, kept.0), omega (arith, kept.1), omega (arith, kept.2), omega (arith, kept.3, sum_more c.args.lengths.now c.loop-i.i next), omega (arith, kept.4, sum_more c.args.kept.now c.loop-i.i (omega (arith, asked.counts))), more)

pub returns : goal.returns
returns c =
    reached_all c.requires (omega arith) (omega (arith, c.loop-i-test.false, c.if-lengths-eq0.false)) c.loop-i.invariant.5
