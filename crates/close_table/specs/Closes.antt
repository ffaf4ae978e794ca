-- The closed table: what closing, marking the tops and both together promise (01, "The inference rules"). Assumes nothing.
-- n is how many words a row has for each value, W the window, T the table before and T' after.
use Rattle.std.specs.Prelude.{◌≡◌, true, ◌↔◌, ℕ, ◌<◌, length, get_or}
use mathlib.Core.List.{List, Memᴰ}
use Rattle.spec_ticks.specs.Ticks.{Small}
use Rattle.spec_tilco.specs.Inference.{Program, Mark, mark, Marks, Derives}
use Rattle.spec_tilco.specs.Table.{Stands}
use Rattle.close_rules.specs.Codes.{Codes, TopsAre}

-- "The closed table is the least set of marks that has these and every consequence": T' has exactly what the rules lead to from T.
pub record LeastClosed (n : ℕ) (P : Program) (W : ℕ) (T T' : List ℕ) : Type 0 where
  pub size : length T' ≡ length T
  pub small : Small 64 T'
  pub exactly : (m : Mark) → Stands n T' m ↔ Derives P W (Stands n T) m

-- Every top is true at every tick of the window; of a program without tops this asks nothing.
abbrev pub TopsStand : ℕ → Program → ℕ → List ℕ → Type 0
TopsStand n P W T = (r : ℕ) → Memᴰ r P.tops → (t : ℕ) → t < W → Stands n T (mark r t true)

-- Row r true at every tick of the window.
abbrev pub RowTrue : ℕ → ℕ → Marks
RowTrue W r (mark x t v) = (t < W) × (v ≡ true) × (x ≡ r)

-- The rows listed in the first k words of B, true at every tick of the window.
abbrev pub TopMarks : ℕ → List ℕ → ℕ → Marks
TopMarks W B k (mark r t v) = (t < W) × (v ≡ true) × ((i : ℕ) × (i < k) × (get_or B i 0 ≡ r))

-- The table is closed for every program with these rows whose tops stand in it.
abbrev pub ClosesAll : ℕ → List ℕ → ℕ → ℕ → List ℕ → List ℕ → Type 0
ClosesAll count B W n T T' = (P : Program) → Codes P count B → TopsStand n P W T → LeastClosed n P W T T'

-- The table is settled for every program with these rows and tops.
abbrev pub ClosesWithTops : ℕ → List ℕ → List ℕ → ℕ → ℕ → ℕ → List ℕ → List ℕ → Type 0
ClosesWithTops count B tops k W n T T' = (P : Program) → Codes P count B → TopsAre P tops k → LeastClosed n P W T T'
