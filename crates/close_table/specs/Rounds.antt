-- The words of the list that a round goes over, and their order. Assumes nothing.
use Rattle.std.specs.Prelude.{◌≡◌, Bool, true, false, ℕ, ◌+◌, ◌-◌, ◌*◌, ◌<◌}
use Rattle.close_list.specs.Items.{per}

-- The words of the list for word q of ticks.
abbrev pub InColumn : ℕ → ℕ → ℕ → Type 0
InColumn count q j = (i : ℕ) × (i < per count) × (j ≡ q * per count + i)

-- Those for the first m words of ticks.
abbrev pub InColumns : ℕ → ℕ → ℕ → Type 0
InColumns count m j = (q : ℕ) × (q < m) × InColumn count q j

-- The i-th of m words from below or, going down, from above.
abbrev pub turn : Bool → ℕ → ℕ → ℕ
turn true m i = i
turn false m i = m - 1 - i
