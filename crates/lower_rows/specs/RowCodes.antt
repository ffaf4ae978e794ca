-- Row codes: kind + code_kinds * (a + code_numbers * b), with kind 0 for a signal, 1 for an and, 2 for an or, 3 for a look, 4 for a not-row.
-- Assumes nothing.
use Rattle.std.specs.Prelude.{◌≡◌, true, false, List, ℕ, zero, suc, ◌+◌, ◌*◌, ◌/◌, ◌%◌, get_or}
use Rattle.spec_limits.specs.Limits.{code_kinds, code_numbers}
use Rattle.spec_tilco.specs.Inference.{Node, signal, not_of, gate, look}

-- The row code of a kind with the numbers a and b.
unfoldable pub packed : ℕ → ℕ → ℕ → ℕ
packed kind a b = kind + code_kinds * (a + code_numbers * b)

-- A row's code.
unfoldable pub row_code : Node → ℕ
row_code signal = packed 0 1 0
row_code (not_of x) = packed 4 x 0
row_code (gate true a b) = packed 1 a b
row_code (gate false a b) = packed 2 a b
row_code (look k c) = packed 3 c k

-- The row of a kind with the numbers a and b.
abbrev pub unpacked : ℕ → ℕ → ℕ → Node
unpacked zero a b = signal
unpacked (suc zero) a b = gate true a b
unpacked (suc (suc zero)) a b = gate false a b
unpacked (suc (suc (suc zero))) a b = look b a
unpacked (suc (suc (suc (suc kind)))) a b = not_of a

-- The row that a row code says.
abbrev pub row_of : ℕ → Node
row_of w = unpacked (w % code_kinds) (w / code_kinds % code_numbers) (w / (code_kinds * code_numbers))

-- Row r of a buffer. Past its end a row is a signal's, as in a program.
abbrev pub row_at : List ℕ → ℕ → Node
row_at m r = row_of (get_or m r 0)

-- A buffer without rows: every row code is a signal's.
abbrev pub Blank : List ℕ → Type 0
Blank m = (i : ℕ) → get_or m i (row_code signal) ≡ row_code signal
