-- Ticks of one word joined to a table, told by marks. Assumes nothing.
-- n is how many words a row has for each value, q a word of a row, T the table before and T' after.
use Rattle.std.specs.Prelude.{◌≡◌, Bool, true, false, not, List, [], ◌∷◌, ◌↔◌, ℕ, ◌+◌, ◌-◌, ◌*◌, ◌/◌, ◌%◌, ◌^◌, ◌≤◌, ◌<◌, length}
use Rattle.spec_ticks.specs.Ticks.{Has}
use Rattle.spec_tilco.specs.Inference.{mark, Marks, ◌or◌}
use Rattle.spec_tilco.specs.Table.{Stands}
use Rattle.table_marks.specs.Puts.{AddsMarks}

-- The table has row r.
abbrev pub HasRow : ℕ → List ℕ → ℕ → Type 0
HasRow n T r = 2 * (r + 1) * n ≤ length T

-- The table has the first `count` rows.
abbrev pub HasRows : ℕ → List ℕ → ℕ → Type 0
HasRows n T count = 2 * count * n ≤ length T

-- The ticks of v, as word q, are those of U.
abbrev pub Ticks : ℕ → ℕ → (ℕ → Type 0) → Type 0
Ticks q v U = (b : ℕ) → b < 64 → Has v b ↔ U (q * 64 + b)

-- Row r's marks of value v at the ticks U of word q.
abbrev pub Here : ℕ → Bool → ℕ → (ℕ → Type 0) → Marks
Here r v q U (mark x t w) = (x ≡ r) × (w ≡ v) × (t / 64 ≡ q) × U t

-- Row r's marks in word q: of value u at the ticks U, of the other value at the ticks N.
abbrev pub Sides : ℕ → Bool → ℕ → (ℕ → Type 0) → (ℕ → Type 0) → Marks
Sides r u q U N = ◌or◌ (Here r u q U) (Here r (not u) q N)

-- v is word q of row r's marks of value u, and w that of the other value.
pub record Reads (n : ℕ) (T : List ℕ) (q r : ℕ) (u : Bool) (v w : ℕ) : Type 0 where
  pub this : Ticks q v (λ t. Stands n T (mark r t u))
  pub other : Ticks q w (λ t. Stands n T (mark r t (not u)))

-- The bits of v, as a word's ticks.
abbrev pub Bits : ℕ → ℕ → Type 0
Bits v t = Has v (t % 64)

-- How far the words may still grow.
unfoldable pub room : List ℕ → ℕ
room [] = 0
room (x ∷ xs) = (2 ^ 64 - x) + room xs

-- The number tells whether the table changed: if it is 0 the table is the same, else its words have less room to grow.
pub record Tells (T T' : List ℕ) (changed : ℕ) : Type 0 where
  pub still : changed ≡ 0 → T' ≡ T
  pub less_room : 0 < changed → room T' < room T

-- A flag as such a number.
abbrev pub one_if : Bool → ℕ
one_if true = 1
one_if false = 0

-- The marks R are gained, by a function that says whether the table changed.
pub record Joins (n : ℕ) (R : Marks) (T T' : List ℕ) (changed : ℕ) : Type 0 where
  pub gains : AddsMarks n R T T'
  pub tells : Tells T T' changed
  pub small : changed ≤ 1

-- Ticks at which the marks (a, x) and (b, y) both stand.
abbrev pub Both : ℕ → List ℕ → ℕ → Bool → ℕ → Bool → ℕ → Type 0
Both n T a x b y t = Stands n T (mark a t x) × Stands n T (mark b t y)

-- Tick t of word p and tick s of word q, k bits further up in its word.
abbrev pub Apart : ℕ → ℕ → ℕ → ℕ → ℕ → Type 0
Apart p q k t s = t + (q * 64 + k) ≡ s + p * 64
