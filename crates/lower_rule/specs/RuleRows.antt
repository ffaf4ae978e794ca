-- What lowering several formulas in turn answers and leaves in the row buffer and in the tops.
-- Assumes nothing.
use Rattle.std.specs.Prelude.{◌≡◌, Option, Some, None, List, ◌∷◌, map, ℕ, ◌+◌, ◌≤◌, ◌<◌, length}
use Rattle.std.proofs.lemmas.List.Edits.{sets}
use Rattle.read_bytes.specs.Read.{Read}
use Rattle.read_bytes.specs.Read.Read.{got, refused}
use Rattle.spec_tilco.specs.Lists.{total}
use Rattle.spec_tilco.specs.Lowering.{BTL, size, rows_all, tops_all, lows}
use Rattle.read_arena.specs.NodeRules.{form_at, definings_at, NodeIn}
use Rattle.lower_rows.specs.RowCodes.{row_code}
use Rattle.lower_rows.specs.RowWrites.{no_room_lem}
use Rattle.lower_rule.specs.declared.rules.InUse.{InUse}

-- The buffers that rules are lowered into: that of the rows, and that of the top rows.
pub record Buffers : Type 0 where
  pub rows : List ℕ
  pub tops : List ℕ

abbrev pub buffers : List ℕ → List ℕ → Buffers
buffers m ts = record { rows = m; tops = ts }

-- A rule with h hidden signals stands at node n of an arena.
pub record RuleIn (a : List ℕ) (n h : ℕ) : Type 0 where
  pub stands : NodeIn a n
  pub hidden : length (definings_at a n) ≡ h

-- What it comes to: its own formula, then the defining rules of its hidden signals.
abbrev pub whole_at : List ℕ → ℕ → List BTL
whole_at a n = lows (form_at a n ∷ definings_at a n)

-- What each case of an answer says: the tops and the rows then used; or that there is no room.
abbrev pub all_lowered_says : Option InUse → Read ℕ
all_lowered_says (Some u) = got u.tops u.rows
all_lowered_says None = no_room_lem

-- The formulas cs are lowered: their rows stand from b on and their tops from k on, and nothing else has changed in the buffers, B before
-- and B' after.
pub record WentAll (cs : List BTL) (b k : ℕ) (B B' : Buffers) (at used : ℕ) : Type 0 where
  pub tops : at ≡ k + length cs
  pub next : used ≡ b + total size cs
  pub room : used ≤ length B.rows
  pub rows : B'.rows ≡ sets B.rows b (map row_code (rows_all cs b))
  pub holds : B'.tops ≡ sets B.tops k (tops_all cs b)
  pub long : length B'.rows ≡ length B.rows
  pub wide : length B'.tops ≡ length B.tops

-- Their rows do not fit.
pub record NoFitAll (cs : List BTL) (b : ℕ) (B B' : Buffers) : Type 0 where
  pub over : length B.rows < b + total size cs
  pub long : length B'.rows ≡ length B.rows

-- What each case of an answer promises.
abbrev pub LowersAllAs : List BTL → ℕ → ℕ → Buffers → Buffers → Read ℕ → Type 0
LowersAllAs cs b k B B' (got at used) = WentAll cs b k B B' at used
LowersAllAs cs b k B B' (refused n p) = NoFitAll cs b B B'

-- So says the answer.
unfoldable pub LowersAll : List BTL → ℕ → ℕ → Buffers → Buffers → Option InUse → Type 0
LowersAll cs b k B B' r = LowersAllAs cs b k B B' (all_lowered_says r)
