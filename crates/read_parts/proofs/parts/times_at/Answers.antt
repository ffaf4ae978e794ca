-- `times_at` meets its contract. Each turn reads an interval, so the text that is left falls. Assumes nothing.
use mathlib.Core.Path.{sym, ◌∙◌}
use native.Mathlib.Omega.{arith}
use borrow.Author.Rules.{rules}
use Rattle.read_parts.proofs.Steps.{timed_offsets}
use Rattle.read_parts.proofs.Timed.{time_inside, timing_first, timing_ends, timing_refused, timing_room, timing_on}
use Rattle.read_parts.proofs.parts.times_at.Goals as goal

pub loop-b-init : goal.loop-b-init
loop-b-init c = timing_first c.requires

pub overflow_add-inner : goal.overflow_add-inner
overflow_add-inner c =
    omega (arith, time_inside _ _ (sym c.time_at.ensures ∙ c.loop-b-test.true))

pub interval_at-requires : goal.interval_at-requires
interval_at-requires c =
    omega (arith, time_inside _ _ (sym c.time_at.ensures ∙ c.loop-b-test.true))

pub returns-in_err-first : goal.returns-in_err-first
returns-in_err-first c =
    timing_refused c.loop-b.invariant (sym c.time_at.ensures ∙ c.loop-b-test.true) c.in_err-first.ensures (search rules)

pub overflow_sub-child : goal.overflow_sub-child
overflow_sub-child c = omega (arith, c.loop-b.invariant.some)

pub overflow_cast-first : goal.overflow_cast-first
overflow_cast-first c =
    record { fits = omega (arith, (timed_offsets _ _ c.in_ok-first.ensures).4) }

pub overflow_cast-more : goal.overflow_cast-more
overflow_cast-more c =
    record { fits = omega (arith, (timed_offsets _ _ c.in_ok-first.ensures).4) }

pub put_node-requires : goal.put_node-requires
put_node-requires c =
    let w = timed_offsets _ _ c.in_ok-first.ensures in
    record {
      node_room = timing_room c.loop-b.invariant (sym c.time_at.ensures ∙ c.loop-b-test.true) c.in_ok-first.ensures;
      children_before = (omega (arith, c.loop-b.invariant.some), w.3, w.4);
    }

pub overflow_add-nodes : goal.overflow_add-nodes
overflow_add-nodes c =
    omega (arith, (timing_room c.loop-b.invariant (sym c.time_at.ensures ∙ c.loop-b-test.true) c.in_ok-first.ensures).few)

pub loop-b-smaller : goal.loop-b-smaller
loop-b-smaller c =
    let w = timed_offsets _ _ c.in_ok-first.ensures in
    omega (arith, w.1, w.2)

pub loop-b-preserved : goal.loop-b-preserved
loop-b-preserved c =
    timing_on c.loop-b.invariant (sym c.time_at.ensures ∙ c.loop-b-test.true) c.in_ok-first.ensures c.byte_at-b.ensures c.put_node.ensures

pub returns : goal.returns
returns c =
    timing_ends c.loop-b.invariant (sym c.time_at.ensures ∙ c.loop-b-test.false)
