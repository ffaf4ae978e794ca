-- The marks of a row at every tick of a span. Assumes nothing.
use Rattle.std.specs.Prelude.{◌≡◌, Bool, ℕ, ◌≤◌}
use Rattle.spec_tilco.specs.Inference.{mark, Marks}

-- A row's marks of value v at the ticks from first to last.
abbrev pub Between : ℕ → Bool → ℕ → ℕ → Marks
Between row v first last (mark x t w) = (x ≡ row) × (w ≡ v) × (first ≤ t) × (t ≤ last)
