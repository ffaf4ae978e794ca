-- `start_column` meets its contract. The invariant: what rests on a mark of a row before x in word q is on the list. Assumes nothing.
use native.Mathlib.Omega.{arith}
use Prim.Native.Nat.{ℕ, ◌+◌}
use mathlib.Core.Path.{◌≡◌, sym, ap, ap₂, ◌∙◌, refl}
use mathlib.Core.Bool.{true, false}
use lib.Bits.{bit_or}
use lib.ListN.{get_or}
use Rattle.table_marks.proofs.Places.{two_blocks, first_block, second_block}
use Rattle.close_list.proofs.Starting.{place_in, starts_none, starts_touched, starts_bare, starts_row}
use Rattle.close_list.proofs.Workable.{queueable_as}
use Rattle.close_list.proofs.start_column.Goals as goal
use Rattle.close_list.proofs.start_column.Goals.{then-yes-no-ne0, else-yes-no-ne0}

pub loop-x-init : goal.loop-x-init
loop-x-init c = (omega arith, starts_none _ _ _ _ _ _ (λ y p z. omega (arith, z.0)))

pub offset_bounds-marks-place : goal.offset_bounds-marks-place
offset_bounds-marks-place c =
    let there = place_in _ _ _ c.args.q _ _ (omega arith) c.requires.q_lt_n.0 c.requires.q_lt_n.1 c.loop-x.invariant.0 in
    omega arith

pub bounds-marks-place : goal.bounds-marks-place
bounds-marks-place c =
    let there = place_in _ _ _ c.args.q _ _ (omega arith) c.requires.q_lt_n.0 c.requires.q_lt_n.1 c.loop-x.invariant.0 in
    omega arith

pub overflow_add-no : goal.overflow_add-no
overflow_add-no c =
    let there = place_in _ _ _ c.args.q _ _ (omega arith) c.requires.q_lt_n.0 c.requires.q_lt_n.1 c.loop-x.invariant.0 in
    omega arith

pub offset_bounds-marks-place-in-loop-x : goal.offset_bounds-marks-place-in-loop-x
offset_bounds-marks-place-in-loop-x c =
    let there = place_in _ _ _ c.args.q _ _ (omega arith) c.requires.q_lt_n.0 c.requires.q_lt_n.1 c.loop-x.invariant.0 in
    omega arith

pub bounds-marks-place-in-loop-x : goal.bounds-marks-place-in-loop-x
bounds-marks-place-in-loop-x c =
    let there = place_in _ _ _ c.args.q _ _ (omega arith) c.requires.q_lt_n.0 c.requires.q_lt_n.1 c.loop-x.invariant.0 in
    omega arith

pub overflow_mul-place : goal.overflow_mul-place
overflow_mul-place c =
    let there = place_in _ _ _ c.args.q _ _ (omega arith) c.requires.q_lt_n.0 c.requires.q_lt_n.1 c.loop-x.invariant.0 in
    omega arith

pub overflow_add-place : goal.overflow_add-place
overflow_add-place c =
    let there = place_in _ _ _ c.args.q _ _ (omega arith) c.requires.q_lt_n.0 c.requires.q_lt_n.1 c.loop-x.invariant.0 in
    omega arith

pub queue_resting-requires : goal.queue_resting-requires
queue_resting-requires c =
    let o = c.requires in
    record { queueable = queueable_as c.loop-x.invariant.1.keeps.size o.queueable; x_lt_count = (omega arith, o.q_lt_n.0) }

pub loop-x-preserved : goal.loop-x-preserved
loop-x-preserved c =
    let a = c.args in
    let l = c.loop-x.invariant in
    let x = c.loop-x.x in
    let yes = ap (λ (i : ℕ). get_or a.marks.now i 0) (l.0 ∙ first_block a.n x a.q true refl) in
    let no = ap (λ (i : ℕ). get_or a.marks.now i 0) (ap (λ (i : ℕ). i + a.n) l.0 ∙ second_block a.n x a.q false refl) in (
      omega (arith, l.0, two_blocks a.n x),
      starts_row _ _ _ _ _ _ _ _ _ l.1
          (elim c.if-yes-no-ne0.branch [ then-yes-no-ne0 w ↦ starts_touched _ _ _ _ _ _ _ _ _ w.todo-is w.queue_resting.ensures | else-yes-no-ne0 w ↦ starts_bare _ _ _ _ _ _ _ _ w.todo-is (sym (ap₂ bit_or yes no) ∙ w.if-yes-no-ne0.false) ]),
    )

pub returns : goal.returns
returns c =
    let all : c.loop-x.x ≡ c.args.on.now.count = omega arith in
    rw all at c.loop-x.invariant.1
