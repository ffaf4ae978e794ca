-- Spans of ticks at which a signal has one value (E5). A reading is a span of one tick.
-- Assumes nothing.
use Rattle.std.specs.Prelude.{Bool, ℕ, zero, suc, ◌+◌, ◌-◌}
use mathlib.Core.List.{List, [], ◌∷◌, map, flatten}
use Rattle.spec_tilco.specs.Inference.{Mark, mark}

-- A signal's value at every tick from the first to the last.
pub record Span : Type 0 where
  pub signal : ℕ
  pub value : Bool
  pub first : ℕ
  pub last : ℕ

abbrev pub span : ℕ → Bool → ℕ → ℕ → Span
span x v f l = record { signal = x; value = v; first = f; last = l }

-- The marks at n ticks, from t on.
unfoldable pub marks_from : ℕ → Bool → ℕ → ℕ → List Mark
marks_from x v t zero = []
marks_from x v t (suc n) = mark x t v ∷ marks_from x v (t + 1) n

-- "For every tick from first to last inclusive": the marks of a span.
unfoldable pub marks_of : Span → List Mark
marks_of e = marks_from e.signal e.value e.first (e.last + 1 - e.first)

-- The marks of spans, one span after the other.
unfoldable pub marks_of_all : List Span → List Mark
marks_of_all es = flatten (map marks_of es)
