-- A bool cast to a number is what the definition says of a clash.
-- Assumes nothing.
use mathlib.Core.Path.{◌≡◌, refl}
use mathlib.Core.Bool.{Bool, true, false}
use mathlib.Core.List.{[], ◌∷◌}
use Prim.Native.Nat.{ℕ}
use mir.Val.{bool_byte}
use Rattle.spec_operations.specs.Gain.{gain}
use Rattle.c_api.specs.Leaves.{gain_values}

pub gain_written : (new : ℕ) (clash : Bool) → new ∷ bool_byte clash ∷ [] ≡ gain_values (gain new clash)
gain_written new true = refl
gain_written new false = refl
