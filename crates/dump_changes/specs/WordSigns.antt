-- The signs of a table's rows, and where they change. Assumes nothing.
-- T is the table, of n words for each row and value.
use Rattle.std.specs.Prelude.{◌≡◌, Bool, true, false, List, ℕ, ◌+◌, ◌-◌, ◌*◌, ◌/◌, ◌%◌, ◌<◌, eqb, get_or}
use Rattle.spec_ticks.specs.Ticks.{bit, block}
use Rattle.read_bytes.specs.Bytes.{byte, pick}

-- Has row x the value v at tick t?
unfoldable pub has_mark : ℕ → List ℕ → ℕ → ℕ → Bool → Bool
has_mark n T x t v = eqb (bit (get_or T (block x v * n + t / 64) 0) (t % 64)) 1

-- The sign of row x at tick t: `1` where it is true, else `0` where it is false, else `x`.
unfoldable pub row_sign : ℕ → List ℕ → ℕ → ℕ → ℕ
row_sign n T x t = pick (has_mark n T x t true) (λ _. byte "1") (pick (has_mark n T x t false) (λ _. byte "0") (byte "x"))

-- Row x has another sign at tick t than at the tick before. At tick 0 none has.
abbrev pub Differs : ℕ → List ℕ → ℕ → ℕ → Type 0
Differs n T t x = row_sign n T x t ≡ row_sign n T x (t - 1) → ⊥

-- One of the first k rows has.
abbrev pub Changes : ℕ → List ℕ → ℕ → ℕ → Type 0
Changes n T k t = (x : ℕ) × (x < k) × Differs n T t x
