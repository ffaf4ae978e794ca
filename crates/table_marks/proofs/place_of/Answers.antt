-- `place_of` meets its contract. Assumes nothing.
use native.Mathlib.Omega.{arith}
use native.Mathlib.Nat.{le_refl}
use Rattle.table_marks.proofs.Places.{row_fits, two_blocks, first_block, second_block}
use Rattle.table_marks.proofs.place_of.Goals as goal

pub overflow_mul-first : goal.overflow_mul-first
overflow_mul-first c =
    let l = row_fits c.args.n c.args.row _ (omega (arith, c.requires.0)) (le_refl _) in
    omega (arith, c.requires.1)

pub overflow_mul-first-2 : goal.overflow_mul-first-2
overflow_mul-first-2 c =
    let l = two_blocks c.args.n c.args.row in
    omega (arith, c.requires.1)

pub overflow_add-first : goal.overflow_add-first
overflow_add-first c =
    let l = two_blocks c.args.n c.args.row in
    omega (arith, c.requires.0, c.requires.1)

pub returns-then-value : goal.returns-then-value
returns-then-value c =
    let a = c.args in
    let l = two_blocks a.n a.row in
    (first_block a.n a.row a.q a.value c.if-value.true, omega (arith, c.requires.0))

pub overflow_add-result : goal.overflow_add-result
overflow_add-result c =
    let asked = c.requires in
    let a = c.args in
    let l = two_blocks a.n a.row in
    omega (arith, asked.0, asked.1)

pub returns : goal.returns
returns c =
    let a = c.args in
    let l = two_blocks a.n a.row in
    (second_block a.n a.row a.q a.value c.if-value.false, omega (arith, c.requires.0))
