-- A span put into a table in parts.
-- Assumes nothing.
use mathlib.Core.Path.{◌≡◌}
use mathlib.Core.Bool.{Bool}
use Prim.Native.Nat.{ℕ, ◌≤◌, ◌<◌}
use Rattle.spec_tilco.specs.Inference.{mark, Marks}

-- The span's marks before tick `past`.
abbrev pub Earlier : ℕ → Bool → ℕ → ℕ → Marks
Earlier row v first past (mark x t w) = (x ≡ row) × (w ≡ v) × (first ≤ t) × (t < past)
