-- `note_texts` meets its contract. The invariant: the texts before i are read, text i starts at `at`, and their notes are kept in the first `used` places.
-- Assumes nothing.
use native.Mathlib.Omega.{arith}
use mathlib.Core.Path.{refl, ◌∙◌}
use lib.ListN.{length-take, length-drop, length-set}
use Rattle.read_readings.proofs.Outcomes.{not_noted, when_noted}
use Rattle.read_readings.proofs.Stays.{refusal_inside}
use Rattle.read_readings.proofs.Turns.{readings_are, readings_off}
use Rattle.figure_texts.specs.Notes.TextsNoted.{all_noted, refused_at}
use Rattle.figure_texts.proofs.Sums.{end_inside}
use Rattle.figure_texts.proofs.Cutting.{text_noted, read_none, read_one, read_off, read_all}
use Rattle.figure_texts.proofs.Keeping.{kept_none, kept_more}
use Rattle.figure_texts.proofs.note_texts.Goals as goal

pub loop-i-init : goal.loop-i-init
loop-i-init c =
    (refl, refl, read_none _ _ _ _, kept_none _ _ _ _ _ _ c.requires.can_note.0.room)

pub overflow_add-end : goal.overflow_add-end
overflow_add-end c =
    omega (arith, c.loop-i.invariant.2.start, end_inside c.requires.can_note.1 c.loop-i.i c.loop-i-test.true)

pub slice_bounds-note_entries-end : goal.slice_bounds-note_entries-end
slice_bounds-note_entries-end c =
    omega (arith, c.loop-i.invariant.2.start, end_inside c.requires.can_note.1 c.loop-i.i c.loop-i-test.true)

pub note_entries-requires : goal.note_entries-requires
note_entries-requires c =
    let asked = c.requires.can_note.0 in
    record { index = asked.index; some = asked.some; ticks = asked.ticks; room = simp (length-take, length-drop) (omega (arith, c.loop-i.invariant.3.places)) }

pub kept_of-k-requires : goal.kept_of-k-requires
kept_of-k-requires c =
    let w = when_noted c.in-Ok.ensures in
    let l = simp (length-take, length-drop) at c.noted-1.given.0 in
    (omega (arith, w.few, c.noted-1.given.1), omega (arith, c.noted-1.given.1, c.loop-i.invariant.3.places))

pub overflow_add-result : goal.overflow_add-result
overflow_add-result c =
    let inside = refusal_inside _ _ _ (not_noted c.in-Err.ensures) in
    omega (arith, c.loop-i.invariant.2.start, end_inside c.requires.can_note.1 c.loop-i.i c.loop-i-test.true, simp (length-take, length-drop) at inside)

pub returns-in-Err : goal.returns-in-Err
returns-in-Err c =
    let read = c.loop-i.invariant.2 in
    refused_at _ (read_off read c.loop-i-test.true (readings_off _ _ _ (not_noted (text_noted read c.in-Err.ensures))))

pub loop-i-preserved : goal.loop-i-preserved
loop-i-preserved c =
    let read = c.loop-i.invariant.2 in
    let noted = when_noted (text_noted read c.in-Ok.ensures) in (
      c.noted-1.given.1 ∙ c.loop-i.invariant.0,
      simp length-set c.loop-i.invariant.1,
      read_one read c.loop-i-test.true c.requires.can_note.1 (readings_are _ _ _ noted.all),
      kept_more c.loop-i.invariant.3 (omega arith) _ _ c.noted-1.given.1 noted c.kept_of-k.ensures,
    )

pub returns : goal.returns
returns c =
    let inv = c.loop-i.invariant in
    all_noted _ _ (read_all inv.2 c.loop-i-test.false) (λ k l. inv.3.notes k (omega arith))
