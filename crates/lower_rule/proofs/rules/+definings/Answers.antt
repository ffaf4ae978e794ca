-- `lower_definings` and `both_definings` meet their contracts. The measure is a node's number: children stand before their
-- parents. Assumes nothing.
use Rattle.read_arena.proofs.Puts.{arena_fewer}
use Rattle.read_arena.proofs.Read.{definings_step, right_step}
use Rattle.read_arena.specs.NodeRules.{definings_at}
use Rattle.lower_rows.proofs.Runs.{buffer_on}
use Rattle.lower_rule.proofs.InTurn.{went_all, all_none, all_full, all_then, rules_full, rules_then, rules_tops}
use lib.ListN.{length}
use mathlib.Core.List.{[], ◌∷◌}
use mathlib.Core.Path.{sym, ap, ◌∙◌}
use native.Mathlib.Omega.{arith}
use Rattle.lower_rule.proofs.rules.+definings.Goals as goal

pub both_definings-returns-in_err-lefts : goal.both_definings-returns-in_err-lefts
both_definings-returns-in_err-lefts t c =
    let s = c.args in
    rw c.from_residual.ensures (rules_full (definings_at s.arena.now s.left) (definings_at s.arena.now s.right) _ _ _ _ _ c.in_err-lefts.ensures)

pub both_definings-lower_definings-requires-2 : goal.both_definings-lower_definings-requires-2
both_definings-lower_definings-requires-2 t c =
    let s = c.args in
    let given = c.requires in
    let w = c.in_ok-lefts.ensures in
    let W = went_all w in
    let n = rules_tops (definings_at s.arena.now s.left) (definings_at s.arena.now s.right) _ _ _ _ _ w _ given.tops_free in
    (omega arith, (given.nodes_in.right, (omega arith, buffer_on given.row_buffer W.room W.long)))

pub both_definings-returns : goal.both_definings-returns
both_definings-returns t c =
    let s = c.args in
    rules_then (definings_at s.arena.now s.left) (definings_at s.arena.now s.right) _ _ _ _ _ c.in_ok-lefts.ensures _ _ c.lower_definings-2.ensures

pub lower_definings-returns-in-Name : goal.lower_definings-returns-in-Name
lower_definings-returns-in-Name t c =
    let l = c.loop-x in
    let e = sym c.node_at.ensures ∙ c.in-Name.is in
    let d = sym l.invariant.4 ∙ definings_step _ _ l.invariant.3 (omega arith) e in
    rw (d, l.invariant.1, l.invariant.2) (all_none _ _ _ c.requires.row_buffer.used_in)

pub lower_definings-loop-x-smaller-in-Deny : goal.lower_definings-loop-x-smaller-in-Deny
lower_definings-loop-x-smaller-in-Deny t c =
    let l = c.loop-x in
    let e = sym c.node_at.ensures ∙ c.in-Deny.is in
    let R = right_step _ _ l.invariant.3 (omega arith) e in
    omega arith

pub lower_definings-loop-x-preserved-in-Deny : goal.lower_definings-loop-x-preserved-in-Deny
lower_definings-loop-x-preserved-in-Deny t c =
    let l = c.loop-x in
    let e = sym c.node_at.ensures ∙ c.in-Deny.is in
    let R = right_step _ _ l.invariant.3 (omega arith) e in
    let d = definings_step _ _ l.invariant.3 (omega arith) e in
    (omega arith, l.invariant.1, l.invariant.2, arena_fewer _ (omega arith) l.invariant.3, sym d ∙ l.invariant.4)

pub lower_definings-both_definings-requires : goal.lower_definings-both_definings-requires
lower_definings-both_definings-requires t c =
    let l = c.loop-x in
    let e = sym c.node_at.ensures ∙ c.in-Pair.is in
    let R = right_step _ _ l.invariant.3 (omega arith) e in
    let d = definings_step _ _ l.invariant.3 (omega arith) e in
    let given = c.requires in
    (omega arith, (record { left = arena_fewer _ (omega arith) l.invariant.3; right = arena_fewer _ (omega arith) l.invariant.3 }, (omega (arith, ap length (sym l.invariant.4 ∙ d), ap length l.invariant.1), rw l.invariant.2 given.row_buffer)))

pub lower_definings-returns-in-Pair : goal.lower_definings-returns-in-Pair
lower_definings-returns-in-Pair t c =
    let l = c.loop-x in
    let e = sym c.node_at.ensures ∙ c.in-Pair.is in
    let d = sym l.invariant.4 ∙ definings_step _ _ l.invariant.3 (omega arith) e in
    rw d (rw (l.invariant.1, l.invariant.2) at c.both_definings.ensures)

pub lower_definings-loop-x-smaller : goal.lower_definings-loop-x-smaller
lower_definings-loop-x-smaller t c =
    let l = c.loop-x in
    let e = sym c.node_at.ensures ∙ c.in-Time.is in
    let R = right_step _ _ l.invariant.3 (omega arith) e in
    omega arith

pub lower_definings-loop-x-preserved : goal.lower_definings-loop-x-preserved
lower_definings-loop-x-preserved t c =
    let l = c.loop-x in
    let e = sym c.node_at.ensures ∙ c.in-Time.is in
    let R = right_step _ _ l.invariant.3 (omega arith) e in
    let d = definings_step _ _ l.invariant.3 (omega arith) e in
    (omega arith, l.invariant.1, l.invariant.2, arena_fewer _ (omega arith) l.invariant.3, sym d ∙ l.invariant.4)

pub lower_definings-overflow_sub-inner : goal.lower_definings-overflow_sub-inner
lower_definings-overflow_sub-inner t c =
    let l = c.loop-x in
    let e = sym c.node_at.ensures ∙ c.in-Keep.is in
    let R = right_step _ _ l.invariant.3 (omega arith) e in
    let d = sym l.invariant.4 ∙ definings_step _ _ l.invariant.3 (omega arith) e in
    let z = ap length d in
    omega arith

pub lower_definings-lower_rule-requires : goal.lower_definings-lower_rule-requires
lower_definings-lower_rule-requires t c =
    let l = c.loop-x in
    let e = sym c.node_at.ensures ∙ c.in-Keep.is in
    let R = right_step _ _ l.invariant.3 (omega arith) e in
    let d = sym l.invariant.4 ∙ definings_step _ _ l.invariant.3 (omega arith) e in
    let z = ap length d in
    let given = c.requires in
    record { node_in = arena_fewer _ (omega arith) l.invariant.3; top_free = omega (arith, ap length l.invariant.1); row_buffer = rw l.invariant.2 given.row_buffer }

pub lower_definings-returns-in_err-own-in-Keep : goal.lower_definings-returns-in_err-own-in-Keep
lower_definings-returns-in_err-own-in-Keep t c =
    let l = c.loop-x in
    let e = sym c.node_at.ensures ∙ c.in-Keep.is in
    let d = sym l.invariant.4 ∙ definings_step _ _ l.invariant.3 (omega arith) e in
    let own = rw (l.invariant.1, l.invariant.2) at c.in_err-own-in-Keep.ensures in
    rw (c.from_residual.ensures, d) (all_full (_ ∷ []) _ _ _ _ _ _ own)

pub lower_definings-both_definings-requires-in-Keep : goal.lower_definings-both_definings-requires-in-Keep
lower_definings-both_definings-requires-in-Keep t c =
    let l = c.loop-x in
    let e = sym c.node_at.ensures ∙ c.in-Keep.is in
    let R = right_step _ _ l.invariant.3 (omega arith) e in
    let d = sym l.invariant.4 ∙ definings_step _ _ l.invariant.3 (omega arith) e in
    let z = ap length d in
    let given = c.requires in
    let W = went_all (rw (l.invariant.1, l.invariant.2) at c.in_ok-own-in-Keep.ensures) in
    (omega arith, (record { left = arena_fewer _ (omega arith) l.invariant.3; right = arena_fewer _ (omega arith) l.invariant.3 }, (omega (arith, ap length l.invariant.1), buffer_on given.row_buffer W.room W.long)))

pub lower_definings-returns-in-Keep : goal.lower_definings-returns-in-Keep
lower_definings-returns-in-Keep t c =
    let l = c.loop-x in
    let e = sym c.node_at.ensures ∙ c.in-Keep.is in
    let d = sym l.invariant.4 ∙ definings_step _ _ l.invariant.3 (omega arith) e in
    let own = rw (l.invariant.1, l.invariant.2) at c.in_ok-own-in-Keep.ensures in
    rw d (all_then (_ ∷ []) _ _ _ _ _ _ own _ _ c.both_definings-in-Keep.ensures)
