-- `work_word` meets its contract. The invariant: a series of visits. The measure: the table's room, and then the word. Assumes nothing.
use native.Mathlib.Omega.{arith}
use mathlib.Core.Path.{refl}
use Prim.Native.Nat.{◌+◌, ◌*◌}
use Rattle.close_list.specs.Items.{per}
use Rattle.close_word.proofs.Working.{works_none, works_then, works_word, works_workable, taken_less}
use Rattle.close_list.proofs.Queueing.{column_in}
use Rattle.close_word.proofs.work_word.Goals as goal

pub overflow_add-stride : goal.overflow_add-stride
overflow_add-stride c =
    omega (arith, c.requires.workable.roomy.most)

pub overflow_mul-j : goal.overflow_mul-j
overflow_mul-j c =
    let a = c.args in
    omega (arith, column_in _ a.n a.q _ c.requires.q_lt_n.0 c.requires.workable.roomy.long)

pub overflow_add-j : goal.overflow_add-j
overflow_add-j c =
    let a = c.args in
    omega (arith, column_in _ a.n a.q _ c.requires.q_lt_n.0 c.requires.workable.roomy.long)

pub loop-todo-init : goal.loop-todo-init
loop-todo-init c = (works_none _ _ _ _ _ _ _ (λ j z. z), omega arith)

pub offset_bounds-todo-j : goal.offset_bounds-todo-j
offset_bounds-todo-j c =
    let a = c.args in
    omega (arith, column_in _ a.n a.q _ c.requires.q_lt_n.0 c.requires.workable.roomy.long, c.loop-todo.invariant.0.long)

pub bounds-todo-j : goal.bounds-todo-j
bounds-todo-j c =
    let a = c.args in
    omega (arith, column_in _ a.n a.q _ c.requires.q_lt_n.0 c.requires.workable.roomy.long, c.loop-todo.invariant.0.long)

pub offset_bounds-todo-j-in-loop-todo : goal.offset_bounds-todo-j-in-loop-todo
offset_bounds-todo-j-in-loop-todo c =
    let loop = c.loop-todo in
    let a = c.args in
    omega (arith, column_in _ a.n a.q _ c.requires.q_lt_n.0 c.requires.workable.roomy.long, loop.invariant.0.long)

pub bounds-todo-j-in-loop-todo : goal.bounds-todo-j-in-loop-todo
bounds-todo-j-in-loop-todo c =
    let loop = c.loop-todo in
    let a = c.args in
    omega (arith, column_in _ a.n a.q _ c.requires.q_lt_n.0 c.requires.workable.roomy.long, loop.invariant.0.long)

pub next_bit-k-requires : goal.next_bit-k-requires
next_bit-k-requires c =
    let loop = c.loop-todo in
    (omega arith, loop.invariant.1)

pub take-requires : goal.take-requires
take-requires c =
    let loop = c.loop-todo in
    let o = c.requires.q_lt_n in
    let b = c.next_bit-k.ensures in
    record { workable = works_workable _ _ _ _ _ c.requires.workable loop.invariant.0; item_at = record { word = o.0; column = o.1; place = refl; bit = b.0; on_list = b.1 } }

pub loop-todo-smaller : goal.loop-todo-smaller
loop-todo-smaller c =
    let take = c.take in
    let a = c.args in
    taken_less _ _ _ _ _ c.requires.workable.coded take.ensures (omega (arith, c.type_inv.todo (a.q * per a.on.now.count + a.i)))

pub loop-todo-preserved : goal.loop-todo-preserved
loop-todo-preserved c =
    let loop = c.loop-todo in
    let next_bit = c.next_bit-k in
    let take = c.take in
    (works_then _ _ _ _ _ _ _ (λ j z. absurd z) loop.invariant.0 take.ensures.works, next_bit.ensures.0)

pub shape_of-todo : goal.shape_of-todo
shape_of-todo c =
    let loop = c.loop-todo in
    loop.invariant.0.long

pub shape_of-marks : goal.shape_of-marks
shape_of-marks c =
    let loop = c.loop-todo in
    let k = c.requires.workable.coded in
    (loop.invariant.0.each k.program k.codes).infers.size

pub returns : goal.returns
returns c =
    let loop = c.loop-todo in
    works_word _ _ _ _ _ (omega arith) loop.invariant.0
