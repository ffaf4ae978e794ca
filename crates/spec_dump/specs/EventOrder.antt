-- The order that a dump's events keep (E6).
-- Assumes nothing. N is how many signals there are, W the window, u the time so far, and k the first signal that may follow at it.
use Rattle.std.specs.Prelude.{◌≡◌, true, false, List, [], ◌∷◌, ℕ, ◌<◌, ◌≤◌}
use Rattle.read_bytes.specs.Bytes.{bytes, one_of}
use Rattle.spec_dump.specs.DumpTexts.{Event, time, sign}
use Rattle.spec_dump.specs.DumpLines.{asked, time_after, signal_after}

-- The byte b is a sign: `0`, `1` or `x`.
abbrev pub Sign : ℕ → Type 0
Sign b = one_of b (bytes "01x") ≡ true

-- "Times rise strictly", inside the window, and "all at `#0`" were given before.
pub record TimeNext (W N u k t : ℕ) : Type 0 where
  pub given : asked N u k ≡ false
  pub later : u < t
  pub inside : t < W

-- "Signs at one time keep sheet order, none twice", and at `#0` none is left out.
pub record SignNext (N u k x b : ℕ) : Type 0 where
  pub order : k ≤ x
  pub declared : x < N
  pub next : asked N u k ≡ true → x ≡ k
  pub known : Sign b

-- The event may follow.
abbrev pub Next : ℕ → ℕ → ℕ → ℕ → Event → Type 0
Next W N u k (time t) = TimeNext W N u k t
Next W N u k (sign x b) = SignNext N u k x b

-- Each of the events may follow those before, and all signs at `#0` are given.
unfoldable pub Follow : ℕ → ℕ → ℕ → ℕ → List Event → Type 0
Follow W N u k [] = asked N u k ≡ false
Follow W N u k (e ∷ es) = Next W N u k e × Follow W N (time_after u e) (signal_after e) es
