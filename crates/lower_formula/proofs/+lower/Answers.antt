-- `lower` and the functions that it calls in a cycle meet their contracts. The measure is the formula's size, then how far the call is from the next one that
-- goes to a child. Assumes nothing.
use Rattle.read_arena.proofs.Puts.{arena_fewer}
use Rattle.read_arena.proofs.Read.{form_step, right_step}
use Rattle.read_arena.specs.NodeRules.{form_at}
use Rattle.lower_rows.proofs.Runs.{buffer_on}
use Rattle.lower_formula.proofs.Parts.{went, join_full, join_second_full, join_then, timed_full, timed_then}
use Rattle.lower_formula.proofs.Sizes.{weight, weight_some}
use mathlib.Core.Path.{sym, ap, ◌∙◌}
use native.Mathlib.Omega.{arith}
use Rattle.lower_formula.proofs.+lower.Goals as goal

pub join-lower-requires : goal.join-lower-requires
join-lower-requires t c =
    (omega (arith, weight_some (form_at c.args.arena.now c.args.right)), (c.requires.nodes_in.left, c.requires.row_buffer))

pub join-returns-in_err-a : goal.join-returns-in_err-a
join-returns-in_err-a t c = rw c.from_residual.ensures (join_full _ _ _ _ _ _ c.in_err-a.ensures)

pub join-lower-requires-2 : goal.join-lower-requires-2
join-lower-requires-2 t c =
    let R = went c.in_ok-a.ensures in
    (omega (arith, weight_some (form_at c.args.arena.now c.args.left)), (c.requires.nodes_in.right, buffer_on c.requires.row_buffer R.room R.long))

pub join-returns-in_err-b : goal.join-returns-in_err-b
join-returns-in_err-b t c =
    rw c.from_residual-in_err-b.ensures (join_second_full _ _ _ _ _ _ _ c.in_ok-a.ensures _ c.in_err-b.ensures)

pub join-push_row-requires : goal.join-push_row-requires
join-push_row-requires t c =
    let R = went c.in_ok-a.ensures in
    let S = went c.in_ok-b.ensures in
    record { few = omega arith; used_in = omega arith }

pub join-returns : goal.join-returns
join-returns t c =
    join_then _ _ _ _ _ _ _ c.in_ok-a.ensures _ _ _ _ c.in_ok-b.ensures (rw c.gate_code.ensures at c.push_row.ensures)

pub lower-lower-requires : goal.lower-lower-requires
unfolding weight
lower-lower-requires t c =
    let given = c.requires in
    let A = given.node_in in
    let e = sym c.node_at.ensures ∙ c.in-Deny.is in
    let R = right_step _ _ A (omega arith) e in
    let z = ap weight (form_step _ _ A (omega arith) e) in
    (omega arith, (arena_fewer _ (omega arith) A, given.row_buffer))

pub lower-pair-requires : goal.lower-pair-requires
unfolding weight
lower-pair-requires t c =
    let given = c.requires in
    let A = given.node_in in
    let e = sym c.node_at.ensures ∙ c.in-Pair.is in
    let R = right_step _ _ A (omega arith) e in
    let z = ap weight (form_step _ _ A (omega arith) e) in
    (omega arith, (record { left = arena_fewer _ (omega arith) A; right = arena_fewer _ (omega arith) A }, given.row_buffer))

pub lower-timed-requires : goal.lower-timed-requires
unfolding weight
lower-timed-requires t c =
    let given = c.requires in
    let A = given.node_in in
    let e = sym c.node_at.ensures ∙ c.in-Time.is in
    let R = right_step _ _ A (omega arith) e in
    let z = ap weight (form_step _ _ A (omega arith) e) in
    (omega arith, (arena_fewer _ (omega arith) A, (record { low = R.1; high = R.2 }, given.row_buffer)))

pub lower-returns-in-Name : goal.lower-returns-in-Name
lower-returns-in-Name t c =
    let e = sym c.node_at.ensures ∙ c.in-Name.is in
    rw (form_step _ _ c.requires.node_in (omega arith) e) c.name_row.ensures

pub lower-returns-in-Deny : goal.lower-returns-in-Deny
lower-returns-in-Deny t c =
    let e = sym c.node_at.ensures ∙ c.in-Deny.is in
    rw (form_step _ _ c.requires.node_in (omega arith) e) c.lower.ensures

pub lower-returns-in-Pair : goal.lower-returns-in-Pair
lower-returns-in-Pair t c =
    let e = sym c.node_at.ensures ∙ c.in-Pair.is in
    rw (form_step _ _ c.requires.node_in (omega arith) e) c.pair.ensures

pub lower-returns-in-Time : goal.lower-returns-in-Time
lower-returns-in-Time t c =
    let e = sym c.node_at.ensures ∙ c.in-Time.is in
    rw (form_step _ _ c.requires.node_in (omega arith) e) (rw c.turned.ensures at c.timed.ensures)

pub lower-returns-in-Keep : goal.lower-returns-in-Keep
lower-returns-in-Keep t c =
    let e = sym c.node_at.ensures ∙ c.in-Keep.is in
    rw (form_step _ _ c.requires.node_in (omega arith) e) c.name_row-in-Keep.ensures

pub pair-returns-in-And : goal.pair-returns-in-And
pair-returns-in-And t c =
    rw c.in-And.is c.join.ensures

pub pair-returns-in-Or : goal.pair-returns-in-Or
pair-returns-in-Or t c =
    rw c.in-Or.is c.join-in-Or.ensures

pub pair-returns-in-Implies : goal.pair-returns-in-Implies
pair-returns-in-Implies t c =
    rw c.in-Implies.is c.join-in-Implies.ensures

pub pair-returns-in-Iff : goal.pair-returns-in-Iff
pair-returns-in-Iff t c =
    rw c.in-Iff.is c.same.ensures

pub same-returns-in_err-a : goal.same-returns-in_err-a
same-returns-in_err-a t c = rw c.from_residual.ensures (join_full _ _ _ _ _ _ c.in_err-a.ensures)

pub same-join-requires-2 : goal.same-join-requires-2
same-join-requires-2 t c =
    let R = went c.in_ok-a.ensures in
    let given = c.requires in
    (omega arith, (record { left = given.nodes_in.right; right = given.nodes_in.left }, buffer_on given.row_buffer R.room R.long))

pub same-returns-in_err-b : goal.same-returns-in_err-b
same-returns-in_err-b t c =
    rw c.from_residual-in_err-b.ensures (join_second_full _ _ _ _ _ _ _ c.in_ok-a.ensures _ c.in_err-b.ensures)

pub same-push_row-requires : goal.same-push_row-requires
same-push_row-requires t c =
    let R = went c.in_ok-a.ensures in
    let S = went c.in_ok-b.ensures in
    record { few = omega arith; used_in = omega arith }

pub same-returns : goal.same-returns
same-returns t c =
    join_then _ _ _ _ _ _ _ c.in_ok-a.ensures _ _ _ _ c.in_ok-b.ensures (rw c.gate_code.ensures at c.push_row.ensures)

pub timed-returns-in_err-top : goal.timed-returns-in_err-top
timed-returns-in_err-top t c = rw c.from_residual.ensures (timed_full _ _ _ _ _ _ _ c.in_err-top.ensures)

pub timed-spread-requires : goal.timed-spread-requires
timed-spread-requires t c =
    let R = went c.in_ok-top.ensures in
    record { near_interval = c.requires.near_interval; row_buffer = buffer_on c.requires.row_buffer R.room R.long }

pub timed-returns : goal.timed-returns
timed-returns t c = timed_then _ _ _ _ _ _ _ _ _ _ c.in_ok-top.ensures c.spread.ensures
