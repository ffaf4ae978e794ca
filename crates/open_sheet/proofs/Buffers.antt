-- An operation's own buffers, as each operation makes them: the index is 0 throughout, each row is a signal's, the tops are 0.
-- Assumes nothing.
use mathlib.Core.Path.{◌≡◌, refl}
use Prim.Native.Nat.{ℕ, zero, suc}
use lib.ListN.{get_or, replicate}
use Rattle.spec_limits.specs.Limits.{most_rows, most_tops}
use Rattle.read_index.specs.Index.{index_numbers}
use Rattle.read_head.specs.SheetHead.{NoNames}
use Rattle.lower_rows.specs.RowCodes.{packed, row_code, Blank}
use Rattle.open_sheet.specs.Buffers.{Fresh}

-- A buffer of signals' words has no rows.
no_rows : (n : ℕ) → Blank (replicate n 8)
unfolding row_code packed
no_rows zero i = refl
no_rows (suc n) zero = refl
no_rows (suc n) (suc i) = no_rows n i

-- A list of noughts has them everywhere.
noughts : (n b : ℕ) → ◌≡◌ {A = ℕ} (get_or (replicate n 0) b 0) 0
noughts zero b = refl
noughts (suc n) zero = refl
noughts (suc n) (suc b) = noughts n b

pub fresh_names : NoNames (replicate index_numbers 0)
fresh_names = record { room = refl; empty = λ b h. noughts index_numbers b }

pub fresh : Fresh (replicate index_numbers 0) (replicate most_rows 8) (replicate most_tops 0)
fresh = record { unnamed = fresh_names; room = record { blank = no_rows most_rows; long = refl; wide = refl } }
