-- Signs that are held from one time of a dump to the next. Assumes nothing. `signs` has a sign for each signal, in sheet order.
use Rattle.std.specs.Prelude.{false, List, ℕ, ◌-◌, ◌≤◌, length, get_or}
use Rattle.spec_limits.specs.Limits.{most_signals, most_name_bytes}
use Rattle.spec_tilco.specs.Lists.{All}
use Rattle.write_readings.specs.EntryTexts.{entries_text}
use Rattle.spec_dump.specs.DumpSigns.{readings_at, sign_readings}

-- The same sign at every tick.
abbrev pub held : List ℕ → ℕ → ℕ → ℕ
held signs x t = get_or signs x 0

-- The readings of held signs at tick t, of every signal from x on.
abbrev pub tick_text : List (List ℕ) → List ℕ → ℕ → ℕ → List ℕ
tick_text names signs t x = entries_text false names (readings_at (held signs) t x (length names - x))

-- The readings of held signs from the tick a on and before b.
abbrev pub held_text : List (List ℕ) → List ℕ → ℕ → ℕ → List ℕ
held_text names signs a b = entries_text false names (sign_readings (held signs) (length names) a (b - a))

-- How many bytes the readings of one tick have at most: 50 for each signal.
abbrev pub most_tick_bytes : ℕ
most_tick_bytes = 3200

-- Readings of these names can be written: they are short and few, and there is a sign for each.
pub record CanHold (names : List (List ℕ)) (signs : List ℕ) : Type 0 where
  pub few : length names ≤ most_signals
  pub short : All (λ w. length w ≤ most_name_bytes) names
  pub signed : length names ≤ length signs
