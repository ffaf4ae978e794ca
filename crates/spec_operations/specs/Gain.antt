-- What add answers where nothing is refused (01, "What it reads and what it says").
-- Assumes nothing.
use Rattle.std.specs.Prelude.{Bool, ℕ}

-- How many facts are new, and whether there is a clash.
pub data Gain : Type 0 where
  gain : ℕ → Bool → Gain
