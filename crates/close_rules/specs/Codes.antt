-- When the words in a buffer are a program's rows (01, "Lowering, row by row").
-- Assumes nothing. A buffer's index is the row's number.
use Rattle.std.specs.Prelude.{◌≡◌, ℕ, ◌+◌, ◌*◌, ◌/◌, ◌%◌, ◌≤◌, ◌<◌, length, get_or}
use mathlib.Core.List.{List, Memᴰ}
use Rattle.spec_limits.specs.Limits.{code_kinds, code_numbers}
use Rattle.lower_rows.specs.RowCodes.{row_at}
use Rattle.spec_tilco.specs.Inference.{Node, signal, not_of, gate, look, Program, node}

-- A row's children stand before it, and a look's offset is from -63 to 63, written with 64 added.
abbrev pub Fine : ℕ → Node → Type 0
Fine r signal = Unit {0}
Fine r (not_of x) = x < r
Fine r (gate u a b) = (a < r) × (b < r)
Fine r (look k c) = (c < r) × (1 ≤ k) × (k ≤ 127)

-- The words in B say the nodes of P's `count` rows, and past them signals; there are as many as the bits of whole words for these rows.
pub record Codes (P : Program) (count : ℕ) (B : List ℕ) : Type 0 where
  pub long : (count + 63) / 64 * 64 ≤ length B
  pub rows_are : length P.rows ≡ count
  pub nodes : (r : ℕ) → node P r ≡ row_at B r
  pub fine : (r : ℕ) → Fine r (node P r)

-- Some program has these words.
pub record Coded (count : ℕ) (B : List ℕ) : Type 0 where
  pub program : Program
  pub codes : Codes program count B

-- The word of row r starts as that of a look at row c: with its kind and its child.
abbrev pub LooksAt : List ℕ → ℕ → ℕ → Type 0
LooksAt B r c = get_or B r 0 % (code_kinds * code_numbers) ≡ code_kinds * c + 3

-- The first k words in B are the top rows of P.
pub record TopsAre (P : Program) (B : List ℕ) (k : ℕ) : Type 0 where
  pub given : (i : ℕ) → i < k → Memᴰ (get_or B i 0) P.tops
  pub every : (r : ℕ) → Memᴰ r P.tops → (i : ℕ) × (i < k) × (get_or B i 0 ≡ r)
