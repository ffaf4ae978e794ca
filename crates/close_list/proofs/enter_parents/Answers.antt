-- `enter_parents` meets its contract. The invariant: a row of the list has its bit, or is still ahead. Assumes nothing.
use native.Mathlib.Omega.{arith}
use mathlib.Core.Path.{refl}
use Rattle.close_list.proofs.Queueing.{walk_start, walk_more, walk_edge, walk_end}
use Rattle.close_list.proofs.enter_parents.Goals as goal

pub loop-h-init : goal.loop-h-init
loop-h-init c =
    let asked = c.requires in
    walk_start _ _ _ _ _ asked.0

pub enter-requires : goal.enter-requires
enter-requires c =
    let o = c.requires in
    let l = c.loop-h in
    omega (arith, walk_edge _ _ _ _ _ _ _ (omega arith) l.invariant, o.2, l.invariant.keeps.size)

pub offset_bounds-nexts-h : goal.offset_bounds-nexts-h
offset_bounds-nexts-h c =
    let o = c.requires in
    let l = c.loop-h in
    omega (arith, walk_edge _ _ _ _ _ _ _ (omega arith) l.invariant, o.1)

pub bounds-nexts-h : goal.bounds-nexts-h
bounds-nexts-h c =
    let o = c.requires in
    let l = c.loop-h in
    omega (arith, walk_edge _ _ _ _ _ _ _ (omega arith) l.invariant, o.1)

pub loop-h-smaller : goal.loop-h-smaller
loop-h-smaller c =
    let l = c.loop-h in
    omega (arith, walk_edge _ _ _ _ _ _ _ (omega arith) l.invariant)

pub loop-h-preserved : goal.loop-h-preserved
loop-h-preserved c =
    let enter = c.enter in
    let l = c.loop-h in
    walk_more _ _ _ _ _ _ _ _ _ (omega arith) refl l.invariant enter.ensures

pub shape_of-todo : goal.shape_of-todo
shape_of-todo c = c.loop-h.invariant.keeps.size

pub returns : goal.returns
returns c = walk_end _ _ _ _ _ _ _ (omega arith) c.loop-h.invariant
