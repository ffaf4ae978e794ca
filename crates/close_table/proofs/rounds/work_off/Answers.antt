-- `work_off` meets its contract. The invariant: all marks follow, what is not on the list is settled, and after the last round it is empty. Assumes nothing.
use native.Mathlib.Omega.{arith}
use mathlib.Core.Path.{refl, ◌∙◌}
use Rattle.close_table.proofs.Finishing.{toward_start, toward_workable, toward_more, toward_less, toward_end}
use Rattle.close_table.proofs.rounds.work_off.Goals as goal

pub overflow_add-m : goal.overflow_add-m
overflow_add-m c =
    omega (arith, c.requires.workable.roomy.most)

pub overflow_mul-m : goal.overflow_mul-m
overflow_mul-m c =
    omega (arith, c.requires.workable.roomy.long)

pub loop-go-init : goal.loop-go-init
loop-go-init c =
    (λ i. omega (arith, c.type_inv.marks i), refl, toward_start _ _ _ _ _ _ c.requires.settled_off_list)

pub work_round-requires : goal.work_round-requires
work_round-requires c =
    let l = c.loop-go in
    toward_workable _ _ _ _ _ c.requires.workable l.invariant.1 l.invariant.2

pub items_left-go-requires : goal.items_left-go-requires
items_left-go-requires c =
    let loop = c.loop-go in
    let work-round = c.work_round in
    omega (arith, c.requires.workable.roomy.long, loop.invariant.1, work-round.ensures.long)

pub loop-go-smaller : goal.loop-go-smaller
loop-go-smaller c =
    let test = c.loop-go-test in
    let work-round = c.work_round in
    rw test.true (toward_less _ _ _ _ _ _ _ _ c.items_left-go.result c.requires.workable.coded work-round.ensures c.items_left-go.ensures.1)

pub loop-go-preserved : goal.loop-go-preserved
loop-go-preserved c =
    let work-round = c.work_round in
    let l = c.loop-go in
    (λ i. omega (arith, c.type_inv.marks i), work-round.ensures.long ∙ l.invariant.1, toward_more _ _ _ _ _ _ _ _ _ _ l.invariant.2 work-round.ensures c.items_left-go.ensures.0)

pub shape_of-todo : goal.shape_of-todo
shape_of-todo c = c.loop-go.invariant.1

pub shape_of-marks : goal.shape_of-marks
shape_of-marks c =
    (c.loop-go.invariant.2 c.requires.workable.coded.program c.requires.workable.coded.codes).infers.size

pub returns : goal.returns
returns c =
    let l = c.loop-go in
    toward_end _ _ _ _ _ _ _ _ c.loop-go-test.false c.requires.workable.sized.words_are l.invariant.0 l.invariant.2
