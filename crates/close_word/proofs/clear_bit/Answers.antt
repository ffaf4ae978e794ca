-- `clear_bit` meets its contract. Assumes nothing.
use native.Mathlib.Omega.{arith}
use lib.ListN.{get_or, set}
use Rattle.table_marks.proofs.Marks.{one_word}
use mathlib.Core.Path.{ap}
use Prim.Native.Nat.{ℕ, ◌-◌}
use Rattle.close_word.proofs.Taking.{bit_le}
use Rattle.close_word.proofs.clear_bit.Goals as goal

pub overflow_sub-todo : goal.overflow_sub-todo
overflow_sub-todo c =
    let o = c.requires in
    let a = c.args in
    omega (arith, one_word a.k o.1, bit_le (get_or a.todo.now a.j 0) a.k o.2)

pub returns : goal.returns
returns c =
    let o = c.requires in
    let a = c.args in
    ap (λ (b : ℕ). set a.todo.now a.j (get_or a.todo.now a.j 0 - b)) (one_word a.k o.1)
