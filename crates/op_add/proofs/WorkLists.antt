-- A short list is long enough for a small table, and a long one for every table.
-- Assumes nothing.
use Prim.Native.Nat.{ℕ, ◌*◌, ◌≤◌}
use native.Mathlib.Nat.{mul_assoc, mul-le-mul, mul-le-mul_right}
use native.Mathlib.Decide.{dec_le}
use native.Mathlib.Omega.{arith}
use Rattle.spec_limits.specs.Limits.{most_rows}
use Rattle.table_marks.specs.Sizes.{most_words}
use Rattle.close_list.specs.Items.{per}
use Rattle.op_add.specs.WorkLists.{ListFor}

-- Up to 64 rows take one word of the list for each word of ticks; more rows fill each of its words by half at least.
few_items : (count n : ℕ) → n ≤ most_words → 2 * count * n ≤ 2 * most_rows → per count * n ≤ most_words
few_items count n h l = go (dec_le count 64)
  where
    go : Dec (count ≤ 64) → per count * n ≤ most_words
    go (yes few) =
        let one : per count ≤ 1 = omega arith in
        omega (arith, mul-le-mul_right n one)
    go (no many) =
        let half : 64 * per count ≤ 2 * count = omega arith in
        omega (arith, mul-le-mul_right n half, mul_assoc 64 (per count) n)

pub short_enough : (t : ℕ) → t ≤ 2 * most_rows → ListFor t most_words
short_enough t small count n c h e = few_items count n h (omega (arith, e))

pub long_enough : (t : ℕ) → ListFor t (per most_rows * most_words)
long_enough t count n c h e =
    let rows : per count ≤ per most_rows = omega arith in
    mul-le-mul rows h
