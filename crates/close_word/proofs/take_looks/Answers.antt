-- `take_looks` meets its contract. The invariant: looks were visited, what they give is gathered, and their child's word is as it was; bit k stands for
-- the next of them. The measure: the table's room, and then the word. Assumes nothing.
use native.Mathlib.Omega.{arith}
use mathlib.Core.Path.{refl, ◌∙◌}
use Prim.Native.Nat.{◌+◌, ◌*◌, ◌/◌, ◌%◌, ◌<◌}
use lib.ListN.{get_or}
use Rattle.spec_limits.specs.Limits.{code_kinds, code_numbers}
use Rattle.close_rules.proofs.Decoding.{look_start, look_in}
use Rattle.close_parents.proofs.Children.{look_below}
use Rattle.close_list.proofs.Workable.{queueable, row_there}
use Rattle.close_word.proofs.Taking.{item_inside, item_next}
use Rattle.close_word.proofs.Working.{stretch_less}
use Rattle.close_word.proofs.Gathering.{gathering_none, gathering_more, gathering_end, gathering_workable}
use Rattle.close_word.proofs.take_looks.Goals as goal

pub overflow_mul-start : goal.overflow_mul-start
overflow_mul-start c =
    omega (arith, c.requires.item_at.0.column, c.requires.item_at.0.bit, c.requires.workable.coded.codes.long)

pub overflow_add-kind : goal.overflow_add-kind
overflow_add-kind c =
    omega (arith, c.requires.item_at.0.column, c.requires.item_at.0.bit, c.requires.workable.coded.codes.long)

pub offset_bounds-on-start : goal.offset_bounds-on-start
offset_bounds-on-start c =
    omega (arith, c.requires.item_at.0.column, c.requires.item_at.0.bit, c.requires.workable.coded.codes.long)

pub bounds-on-start : goal.bounds-on-start
bounds-on-start c =
    omega (arith, c.requires.item_at.0.column, c.requires.item_at.0.bit, c.requires.workable.coded.codes.long)

pub child_at-child-requires : goal.child_at-child-requires
child_at-child-requires c =
    let a = c.args in
    let given = c.requires.workable in
    let o = c.requires.item_at in
    let r = 64 * a.i + a.first in
    let y = get_or a.on.now.rows.now r 0 % (code_kinds * code_numbers) / code_kinds in
    let starts = look_start a.on.now.rows.now r o.1 in
    let l : y < a.on.now.count = omega (arith, look_below a.on.now.count a.on.now.rows.now r y starts given.coded, look_in a.on.now.count a.on.now.rows.now r y starts given.coded) in
    (o.0.word, row_there given y l, given.sized.words_are)

pub loop-k-init : goal.loop-k-init
loop-k-init c =
    let a = c.args in
    let o = c.requires.item_at in
    let s = c.child_at-child.ensures in
    (gathering_none _ _ _ _ _ refl _ _ _ _, s.2, λ l. (rw s.1 o.0, rw s.0 (look_start a.on.now.rows.now (64 * a.i + a.first) o.1)))

pub take_look-given-requires : goal.take_look-given-requires
take_look-given-requires c =
    let v = c.loop-k.invariant in
    record { workable = gathering_workable _ _ _ _ _ c.requires.workable v.0; item_at = v.2 (omega arith); sees = v.1 }

pub offset_bounds-todo-j : goal.offset_bounds-todo-j
offset_bounds-todo-j c =
    let good = c.well_formed in
    let loop = c.loop-k in
    omega (arith, item_inside c.requires.item_at.0 c.requires.workable.roomy, loop.invariant.0.long, c.take_look-given.ensures.takes_off_look.long, good)

pub bounds-todo-j : goal.bounds-todo-j
bounds-todo-j c =
    let good = c.well_formed in
    let loop = c.loop-k in
    omega (arith, item_inside c.requires.item_at.0 c.requires.workable.roomy, loop.invariant.0.long, c.take_look-given.ensures.takes_off_look.long, good)

pub next_look-k-requires : goal.next_look-k-requires
next_look-k-requires c =
    (omega arith, omega (arith, c.requires.item_at.0.column, c.requires.workable.coded.codes.long))

pub loop-k-smaller : goal.loop-k-smaller
loop-k-smaller c =
    let a = c.args in
    let k = c.requires.workable.coded in
    let look = c.take_look-given.ensures.takes_off_look in
    stretch_less a.j (look.each k.program k.codes).0 look.less (omega (arith, c.type_inv.todo a.j))

pub loop-k-preserved : goal.loop-k-preserved
loop-k-preserved c =
    let loop = c.loop-k in
    let a = c.args in
    let o = c.requires.item_at in
    let s = c.child_at-child.ensures in
    let starts = look_start a.on.now.rows.now (64 * a.i + a.first) o.1 in
    (gathering_more _ _ _ _ _ _ loop.invariant.0 c.take_look-given.ensures.takes_off_look, c.take_look-given.ensures.sees_still, λ l. let k = c.next_look-k.ensures l in (item_next (loop.invariant.2 (omega arith)).0 l k.0, rw s.0 (k.1 ∙ starts)))

pub store_child-requires : goal.store_child-requires
store_child-requires c =
    let loop = c.loop-k in
    let a = c.args in
    let o = c.requires.item_at in
    let given = gathering_workable _ _ _ _ _ c.requires.workable loop.invariant.0 in
    let r = 64 * a.i + a.first in
    let y = get_or a.on.now.rows.now r 0 % (code_kinds * code_numbers) / code_kinds in
    let starts = look_start a.on.now.rows.now r o.1 in
    let l : y < a.on.now.count = omega (arith, look_below a.on.now.count a.on.now.rows.now r y starts given.coded, look_in a.on.now.count a.on.now.rows.now r y starts given.coded) in
    record { queueable = queueable given; x_lt_count = (l, o.0.word, row_there given y l) }

pub shape_of-todo : goal.shape_of-todo
shape_of-todo c =
    let loop = c.loop-k in
    let store-child = c.store_child in
    store-child.ensures.notes.keeps.size ∙ loop.invariant.0.long

pub shape_of-marks : goal.shape_of-marks
shape_of-marks c =
    let loop = c.loop-k in
    let store-child = c.store_child in
    let k = c.requires.workable.coded in
    store-child.ensures.joins.gains.size ∙ (loop.invariant.0.each k.program k.codes).infers.size

pub returns : goal.returns
returns c =
    let loop = c.loop-k in
    let store-child = c.store_child in
    let s = c.child_at-child.ensures in
    gathering_end _ _ _ _ _ _ _ _ _ (λ e. omega (arith, e, c.requires.item_at.0.bit)) (rw (s.0, s.1) at loop.invariant.0) store-child.ensures
