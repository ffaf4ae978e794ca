-- The order and the merging by example, from E5's words. Assumes nothing.
use mathlib.Core.Bool.{true, false}
use mathlib.Core.List.{[], ◌∷◌}
use mathlib.Core.Logic.{inl, inr, ⊎_elim}
use native.Mathlib.Omega.{arith}
use Rattle.read_reading.specs.Spans.{span}
use Rattle.spec_moves.specs.InOrder.{Sorted, InOrder}

-- "Sorting by signal number, value, then first tick": value 0 comes first, although its tick is later; so does the lower signal number.
pub value_0_first : InOrder true (span 0 false 9 9 ∷ span 0 true 3 5 ∷ span 1 false 0 0 ∷ [])
unfolding Sorted
value_0_first = record {
  shaped = (omega arith, (omega arith, (omega arith, tt)));
  sorted = ((inl (omega arith), (inl (omega arith), tt)), ((inl (omega arith), tt), (tt, tt)));
}

-- "Merging .. touching spans": a span that ends at 3 and one that starts at 4 are not left apart; the readings at 3 and 4 are.
pub touching_merged : InOrder true (span 0 true 0 3 ∷ span 0 true 4 7 ∷ []) → ⊥
unfolding Sorted
touching_merged x = ⊎_elim (λ h. absurd (omega arith)) (λ h. absurd (omega (arith, h.1))) x.sorted.0.0

pub readings_side_by_side : InOrder false (span 0 true 3 3 ∷ span 0 true 4 4 ∷ [])
unfolding Sorted
readings_side_by_side = record { shaped = (omega arith, (omega arith, tt)); sorted = ((inr (omega arith, omega arith), tt), (tt, tt)) }
