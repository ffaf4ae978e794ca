-- What a move makes of marks of k signals at ticks below W are entries of these signals at these ticks.
-- Assumes nothing.
use mathlib.Core.Path.{refl}
use mathlib.Core.Bool.{Bool, true, false}
use mathlib.Core.List.{List, Memᴰ}
use Prim.Native.Nat.{ℕ, ◌<◌, ◌≤◌}
use native.Mathlib.Omega.{arith}
use Rattle.spec_tilco.specs.Inference.{Mark, mark}
use Rattle.spec_tilco.specs.Lists.{All}
use Rattle.spec_tilco.specs.Table.{ReadMarks}
use Rattle.spec_tilco.proofs.Lists.{all_of_lem, all_at}
use Rattle.read_reading.specs.Spans.{Span}
use Rattle.read_reading.proofs.Lines.{Within}
use Rattle.read_reading.proofs.SpanMarks.{in_span, one_in}
use Rattle.spec_moves.specs.InOrder.{Shaped, MovedTo}

-- An entry ends at its first tick or later.
pub shaped_order : (spans : Bool) (e : Span) → Shaped spans e → e.first ≤ e.last
shaped_order true e s = s
shaped_order false e s = omega arith

-- Each mark is of one of k signals, at a tick of the window W.
abbrev pub MarksWithin : ℕ → ℕ → List Mark → Type 0
MarksWithin k W ms = (x t : ℕ) (v : Bool) → ReadMarks ms (mark x t v) → (x < k) × (t < W)

-- The entries are within the same bounds: the last mark of an entry is one of those that were moved.
pub moved_within : {spans : Bool} {ms : List Mark} {es : List Span} (k W : ℕ) → MovedTo spans ms es → MarksWithin k W ms → All (Within k W) es
moved_within {spans} {ms} {es} k W m w = all_of_lem (Within k W) es within
  where
    within : (e : Span) → Memᴰ e es → Within k W e
    within e i =
        let o = shaped_order spans e (all_at (Shaped spans) es m.in_order.shaped e i) in
        let b = w e.signal e.last e.value ((m.same (mark e.signal e.last e.value)).0 (one_in es i (in_span e (refl, refl, o, omega arith)))) in
        record { signal = b.0; order = o; ticks = b.1 }
