-- Where the words of a row stand in a table: two blocks of n, the true marks' first. Assumes nothing.
use mathlib.Core.Path.{◌≡◌, ◌∙◌, ap, sym}
use mathlib.Core.Bool.{Bool, true, false}
use Prim.Native.Nat.{ℕ, suc, ◌+◌, ◌*◌, ◌≤◌, ◌<◌}
use native.Mathlib.Nat.{suc-mul, mul-le-mul_left}
use native.Mathlib.Omega.{arith}
use Rattle.spec_ticks.specs.Ticks.{block}

-- A row's number fits a word, and so do its blocks.
pub row_fits : (n row m : ℕ) → 0 < n → 2 * (row + 1) * n ≤ m → 2 * row + 1 < m
row_fits n row m h l = omega (arith, mul-le-mul_left (2 * (row + 1)) h)

-- A row's words are two blocks of n.
pub two_blocks : (n row : ℕ) → 2 * (row + 1) * n ≡ 2 * row * n + n + n
two_blocks n row =
    let e : 2 * (row + 1) * n ≡ suc (suc (2 * row)) * n = ap (λ (k : ℕ). k * n) (omega arith) in
    e ∙ omega (arith, suc-mul (suc (2 * row)) n, suc-mul (2 * row) n)

-- The true marks' block is the first, the false marks' the second.
pub first_block : (n row q : ℕ) (v : Bool) → v ≡ true → 2 * row * n + q ≡ block row v * n + q
first_block n row q v e = ap (λ (k : ℕ). k * n + q) (omega arith) ∙ ap (λ (u : Bool). block row u * n + q) (sym e)

pub second_block : (n row q : ℕ) (v : Bool) → v ≡ false → 2 * row * n + q + n ≡ block row v * n + q
second_block n row q v e =
    let l : suc (2 * row) * n ≡ block row false * n = ap (λ (k : ℕ). k * n) (omega arith) in
    omega (arith, suc-mul (2 * row) n) ∙ ap (λ (u : Bool). block row u * n + q) (sym e)
