-- A length that is measured up to a limit. Assumes nothing.
use Rattle.std.specs.Prelude.{◌≡◌, ℕ, ◌<◌, ◌≤◌}

-- u is n, where n is within the limit. Else it is past the limit too.
pub record Measures (limit n u : ℕ) : Type 0 where
  pub within : n ≤ limit → u ≡ n
  pub over : limit < n → limit < u
