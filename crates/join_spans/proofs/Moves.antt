-- What a move makes of ascending spans is in order and has their marks.
-- Assumes nothing.
use mathlib.Core.Path.{sym, subst}
use mathlib.Core.Bool.{Bool, true, false}
use mathlib.Core.List.{List}
use Rattle.spec_tilco.specs.Inference.{Mark}
use Rattle.spec_tilco.specs.Lists.{All}
use Rattle.read_reading.specs.Spans.{Span, marks_of_all}
use Rattle.spec_moves.specs.InOrder.{Shaped, SameMarks, MovedTo}
use Rattle.join_spans.specs.Joining.{Ascending, merged, move_to}
use Rattle.join_spans.proofs.Joined.{merged_in_order, merged_marks}
use Rattle.join_spans.proofs.Singles.{singles_in_order, singles_marks}

-- Ascending spans, moved: merged, or merged and taken apart into readings.
pub moved_to : (spans : Bool) (es : List Span) → Ascending es → All (Shaped true) es → MovedTo spans (marks_of_all es) (move_to spans es)
unfolding move_to
moved_to true es a s = record { in_order = merged_in_order es a s; same = merged_marks es a }
moved_to false es a s = record {
  in_order = singles_in_order (merged es) (merged_in_order es a s);
  same = subst (λ (ms : List Mark). SameMarks ms (marks_of_all es)) (sym (singles_marks (merged es))) (merged_marks es a);
}
