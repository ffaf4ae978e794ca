-- A slice that is lent to a function, as the function's `ensures` has it.
-- Assumes nothing.
use Rattle.std.specs.Prelude.{List, ℕ}
use Rattle.std.specs.Borrow.{Bor, MutBor}
use denote.Triple.Both.{Both}
use Rattle.read_names.specs.Spellings.{names_at}

-- A lent slice of numbers.
abbrev pub Slice : Type 0
Slice = Both (Bor (List ℕ)) (Bor (List ℕ))

-- What it holds before the call, and after it.
abbrev pub before : Slice → List ℕ
before a = a.entry.now

abbrev pub after : Slice → List ℕ
after a = a.exit.now

-- A slice of numbers that is lent to be written, and what it holds before the call and after it.
abbrev pub MutSlice : Type 0
MutSlice = Both (MutBor (List ℕ)) (MutBor (List ℕ))

abbrev pub old : MutSlice → List ℕ
old a = a.entry.now

abbrev pub new : MutSlice → List ℕ
new a = a.exit.now

-- The names at these places of a text.
abbrev pub names_of : Slice → Slice → List (List ℕ)
names_of s places = names_at (before s) (before places)
