-- What a writer of rows answers, and what it leaves in the row buffer: m is the buffer before, m' after, b the first row to be written.
-- Assumes nothing.
use Rattle.std.specs.Prelude.{◌≡◌, Bool, Option, Some, None, List, ◌++◌, map, ℕ, suc, ◌+◌, ◌≤◌, ◌<◌, length}
use Rattle.std.proofs.lemmas.List.Edits.{sets}
use Rattle.spec_limits.specs.Limits.{most_rows, most_offset}
use Rattle.read_bytes.specs.Read.{Read}
use Rattle.read_bytes.specs.Read.Read.{got, refused}
use Rattle.spec_tilco.specs.Lists.{tab}
use Rattle.spec_tilco.specs.Inference.{Node, gate, look}
use Rattle.spec_tilco.specs.Lowering.{BTL, joined, top_of, rows_of}
use Rattle.lower_rows.specs.RowCodes.{row_code}
use Rattle.lower_rows.specs.declared.words.Lowered.{Lowered}

-- A row buffer whose first `used` rows are in use: it has no more places than a sheet may have rows.
pub record RowBuffer (m : List ℕ) (used : ℕ) : Type 0 where
  pub few : length m ≤ most_rows
  pub used_in : used ≤ length m

-- An interval's first offset and how many more follow: from -63 to 63, each written with 64 added.
pub record NearInterval (first more : ℕ) : Type 0 where
  pub low : 1 ≤ first
  pub high : first + more ≤ most_offset

-- The looks at row c: n of them, from the offset lo up.
unfoldable pub looks : ℕ → ℕ → ℕ → List Node
looks c lo n = tab (λ j. look (lo + j) c) n

-- The gates that join the rows from i on from the left: n of them, in the rows from b on.
unfoldable pub gates : Bool → ℕ → ℕ → ℕ → List Node
gates u i b n = tab (λ j. gate u (joined i b j) (i + suc j)) n

-- The last of them, or row i if there is none.
unfoldable pub last_gate : ℕ → ℕ → ℕ → ℕ
last_gate i b n = joined i b n

-- "Over 32 hidden signals or 1,024 rows": what lowering says where there is no room is refusal 9, at 0.
abbrev pub no_room_lem : Read ℕ
no_room_lem = refused 9 0

-- What each case of a writer's answer says: the top row, and the rows then used; or that there is no room.
abbrev pub lowered_says : Option Lowered → Read ℕ
lowered_says (Some r) = got r.row r.used
lowered_says None = no_room_lem

-- The row codes ws with the top row t are written: they stand from b on, and nothing else has changed.
pub record Fits (ws : List ℕ) (t b : ℕ) (m m' : List ℕ) (row used : ℕ) : Type 0 where
  pub top : row ≡ t
  pub next : used ≡ b + length ws
  pub room : used ≤ length m
  pub holds : m' ≡ sets m b ws
  pub long : length m' ≡ length m

-- They do not fit.
pub record NoFit (ws : List ℕ) (b : ℕ) (m m' : List ℕ) : Type 0 where
  pub over : length m < b + length ws
  pub long : length m' ≡ length m

-- What each case of a writer's answer promises.
abbrev pub WroteRowsAs : List ℕ → ℕ → ℕ → List ℕ → List ℕ → Read ℕ → Type 0
WroteRowsAs ws t b m m' (got row used) = Fits ws t b m m' row used
WroteRowsAs ws t b m m' (refused n p) = NoFit ws b m m'

-- So says the writer's answer.
unfoldable pub WroteRows : List ℕ → ℕ → ℕ → List ℕ → List ℕ → Option Lowered → Type 0
WroteRows ws t b m m' r = WroteRowsAs ws t b m m' (lowered_says r)

-- The rows of a lowered formula.
unfoldable pub Lowers : BTL → ℕ → List ℕ → List ℕ → Option Lowered → Type 0
Lowers c b m m' r = WroteRows (map row_code (rows_of c b)) (top_of c b) b m m' r

-- The looks at row c from the offset lo and n more, and their joins.
unfoldable pub Spreads : Bool → ℕ → ℕ → ℕ → ℕ → List ℕ → List ℕ → Option Lowered → Type 0
Spreads u lo n c b m m' r = WroteRows (map row_code (looks c lo (suc n) ++ gates u b (b + suc n) n)) (last_gate b (b + suc n) n) b m m' r
