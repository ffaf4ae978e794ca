-- Spans in ascending order joined where they overlap or touch, and spans taken apart into readings: what a move makes of them (E5).
-- Assumes nothing.
use Rattle.std.specs.Prelude.{◌≡◌, Bool, true, false, ◌&&◌, ◌⊎◌, ℕ, zero, suc, ◌+◌, ◌-◌, ◌<◌, ◌≤◌, leb, ltb, eqb}
use mathlib.Core.List.{List, [], ◌∷◌, map, flatten}
use Rattle.spec_tilco.specs.Lists.{All}
use Rattle.read_bytes.specs.Bytes.{pick}
use Rattle.read_reading.specs.Spans.{Span, span}
use Rattle.spec_moves.specs.InOrder.{rank}

-- "Sorting by signal number, value, then first tick": a is not after b.
abbrev pub Ascends : Span → Span → Type 0
Ascends a b = (rank a < rank b) ⊎ ((rank a ≡ rank b) × (a.first ≤ b.first))

-- No span is after a later one.
unfoldable pub Ascending : List Span → Type 0
Ascending [] = Unit {0}
Ascending (e ∷ es) = All (Ascends e) es × Ascending es

-- Does e, which is not before c, overlap or touch it? It is in c's row and starts at the tick after c's last or before.
unfoldable pub meets : Span → Span → Bool
meets c e = eqb (rank c) (rank e) && leb e.first (c.last + 1)

-- c with the ticks of e, which meets it.
unfoldable pub grown : Span → Span → Span
grown c e = span c.signal c.value c.first (pick (ltb c.last e.last) (λ _. e.last) c.last)

-- "Merging equal, overlapping and touching spans": c and the spans after it.
unfoldable pub joined : Span → List Span → List Span
joined c [] = c ∷ []
joined c (e ∷ es) = pick (meets c e) (λ _. joined (grown c e) es) (c ∷ joined e es)

-- Ascending spans merged.
unfoldable pub merged : List Span → List Span
merged [] = []
merged (e ∷ es) = joined e es

-- The readings at n ticks, from t on.
unfoldable pub singles_from : ℕ → Bool → ℕ → ℕ → List Span
singles_from x v t zero = []
singles_from x v t (suc n) = span x v t t ∷ singles_from x v (t + 1) n

-- The readings of a span, one a tick.
unfoldable pub singles : Span → List Span
singles e = singles_from e.signal e.value e.first (e.last + 1 - e.first)

-- The readings of spans, one span after the other.
unfoldable pub all_singles : List Span → List Span
all_singles es = flatten (map singles es)

-- What a move makes of ascending spans: spans, or single readings.
unfoldable pub move_to : Bool → List Span → List Span
move_to true es = merged es
move_to false es = all_singles (merged es)
