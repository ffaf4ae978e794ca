-- A signal's record over several runs (E1): "how many ticks each signal was true, false and unsettled, and the earliest tick settled in any run without a
-- clash, or none".
-- Assumes nothing. W is the window. A run is given by what ask answers of the signal in the run's closed table, tick by tick; in a run that clashes that is
-- contradiction at every tick.
use Rattle.std.specs.Prelude.{◌≡◌, ℕ, zero, suc, ◌+◌, ◌-◌, ◌^◌, ◌<◌, eqb}
use mathlib.Core.List.{List, Memᴰ}
use Rattle.spec_tilco.specs.Lists.{total}
use Rattle.spec_tilco.specs.Table.{Answer, Unsettled, True, False, Contradiction}
use Rattle.write_lines.specs.LineTexts.{one_if}
use Rattle.list_signals.specs.Signals.{sign_byte}
use Rattle.spec_figures.specs.declared.Record.{Record}

-- How many ticks before t have the answer a, told by its sign in the listing.
unfoldable pub ticks_of : Answer → (ℕ → Answer) → ℕ → ℕ
ticks_of a f zero = 0
ticks_of a f (suc t) = ticks_of a f t + one_if (eqb (sign_byte (f t)) (sign_byte a))

-- How many ticks of all runs have it.
abbrev pub column : Answer → ℕ → List (ℕ → Answer) → ℕ
column a W runs = total (λ f. ticks_of a f W) runs

-- The answer settles its cell.
abbrev pub Settles : Answer → Type 0
Settles True = Unit {0}
Settles False = Unit {0}
Settles Unsettled = ⊥
Settles Contradiction = ⊥

-- Tick t is settled in one of the runs. A run that clashes settles none.
abbrev pub SettledIn : ℕ → List (ℕ → Answer) → ℕ → Type 0
SettledIn W runs t = (t < W) × ((f : ℕ → Answer) × Memᴰ f runs × Settles (f t))

-- No tick: what a record has for its first settled tick where none is settled. At C it is UINT64_MAX.
abbrev pub no_tick : ℕ
no_tick = 2 ^ 64 - 1

-- The earliest tick of which P holds, or none.
pub data Earliest (P : ℕ → Type 0) : ℕ → Type 0 where
  earliest : (t : ℕ) → P t → ((u : ℕ) → u < t → P u → ⊥) → Earliest P t
  none : ((t : ℕ) → P t → ⊥) → Earliest P no_tick

-- The record r tells of signal x what these runs come to.
pub record Tells (W x : ℕ) (runs : List (ℕ → Answer)) (r : Record) : Type 0 where
  pub signal_is : r.signal ≡ x
  pub held_is : r.held ≡ column True W runs
  pub failed_is : r.failed ≡ column False W runs
  pub unsettled_is : r.unsettled ≡ column Unsettled W runs
  pub clashed_is : r.clashed ≡ column Contradiction W runs
  pub first_is : Earliest (SettledIn W runs) r.first
