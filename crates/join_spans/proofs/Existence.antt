-- Every list of marks has entries that a move makes of it: each mark a reading, put in ascending order and joined.
-- Assumes nothing.
use mathlib.Core.Path.{◌≡◌, refl, ap₂, subst}
use mathlib.Core.Bool.{Bool, true}
use mathlib.Core.List.Permᴰ
use mathlib.Core.List.{List, [], ◌∷◌, ◌++◌, map, flatten}
use native.Mathlib.Omega.{arith}
use Rattle.spec_tilco.specs.Inference.{Mark, mark}
use Rattle.spec_tilco.specs.Lists.{All}
use Rattle.spec_tilco.proofs.Lists.{all_stays}
use Rattle.read_reading.specs.Spans.{Span, span, marks_of_all}
use Rattle.spec_moves.specs.InOrder.{Shaped, SameMarks, MovedTo}
use Rattle.spec_moves.proofs.Ranks.{same_on}
use Rattle.join_spans.specs.Joining.{move_to}
use Rattle.join_spans.proofs.Singles.{one_mark}
use Rattle.join_spans.proofs.Moves.{moved_to}
use Rattle.join_spans.proofs.Ascent.{reordered_marks, ascent}

-- The reading of a mark.
abbrev reading_of : Mark → Span
reading_of (mark x t v) = span x v t t

-- The readings of marks have these marks, and one tick each.
readings_marks : (ms : List Mark) → marks_of_all (map reading_of ms) ≡ ms
unfolding marks_of_all flatten
readings_marks [] = refl
readings_marks (mark x t v ∷ ms) = ap₂ (λ (ls ns : List Mark). ls ++ ns) (one_mark x t v) (readings_marks ms)

readings_shaped : (ms : List Mark) → All (Shaped true) (map reading_of ms)
readings_shaped [] = tt
readings_shaped (mark x t v ∷ ms) = (omega arith, readings_shaped ms)

-- Of every list of marks a move makes entries.
pub moved_some : (spans : Bool) (ms : List Mark) → (es : List Span) × MovedTo spans ms es
moved_some spans ms =
    let a = ascent (map reading_of ms) in
    let m = moved_to spans a.spans a.ascending (all_stays (Shaped true) (Permᴰ.symm a.each_once) (readings_shaped ms)) in
    let s = same_on m.same (reordered_marks (Permᴰ.symm a.each_once)) in
    (move_to spans a.spans, record { in_order = m.in_order; same = subst (λ (ns : List Mark). SameMarks (marks_of_all (move_to spans a.spans)) ns) (readings_marks ms) s })
