-- Lists of parents: for each row the rows that have it for a child, along numbered edges. Edge 2 r is row r's to its first child and
-- 2 r + 1 to its second; 0 ends a list, for row 0 is a signal's. Assumes nothing.
use Rattle.std.specs.Prelude.{◌≡◌, List, ◌⊎◌, ℕ, ◌*◌, ◌/◌, ◌≤◌, ◌<◌, length, get_or}
use Rattle.lower_rows.specs.RowCodes.{row_at}
use Rattle.spec_tilco.specs.Inference.{Node, signal, not_of, gate, look}

-- Row x is a child of a row, by its node.
abbrev pub Child : Node → ℕ → Type 0
Child signal x = ⊥
Child (not_of y) x = x ≡ y
Child (gate u a b) x = (x ≡ a) ⊎ (x ≡ b)
Child (look k c) x = x ≡ c

-- Row y is in the list that starts with edge h: N has what comes after each edge.
pub data Reach (N : List ℕ) : ℕ → ℕ → Type 0 where
  here : {h y : ℕ} → 0 < h → h / 2 ≡ y → Reach N h y
  later : {h y : ℕ} → 0 < h → Reach N (get_or N h 0) y → Reach N h y

-- The list that starts with edge h has edges below m, each lower than the one before.
pub data Falls (N : List ℕ) (m : ℕ) : ℕ → Type 0 where
  ends : {h : ℕ} → h ≡ 0 → Falls N m h
  goes : {h : ℕ} → 0 < h → h < m → get_or N h 0 < h → Falls N m (get_or N h 0) → Falls N m h

-- The lists with the edges of the first m rows: H has where each list starts.
pub record LinkedTo (count : ℕ) (B H N : List ℕ) (m : ℕ) : Type 0 where
  pub starts : count ≤ length H
  pub edges : 2 * count ≤ length N
  pub falls : (x : ℕ) → x < count → Falls N (2 * m) (get_or H x 0)
  pub reach : (x y : ℕ) → x < count → y < m → Child (row_at B y) x → Reach N (get_or H x 0) y

-- There is a list for each row, and it ends.
abbrev pub Ended : ℕ → List ℕ → List ℕ → Type 0
Ended count H N = (count ≤ length H) × (2 * count ≤ length N) × ((x : ℕ) → x < count → Falls N (2 * count) (get_or H x 0))

-- Every row is in the list of each of its children.
abbrev pub Linked : ℕ → List ℕ → List ℕ → List ℕ → Type 0
Linked count B H N = LinkedTo count B H N count
