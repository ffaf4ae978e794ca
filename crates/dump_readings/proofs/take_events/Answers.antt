-- `take_events` meets its contract. The invariant: whatever gives what is still owed at `at` has taken all events. Assumes nothing.
use borrow.Author.Rules.{rules}
use mathlib.Core.Path.{◌≡◌, refl, sym, ap, ◌∙◌}
use native.Mathlib.Omega.{arith}
use Rattle.std.specs.Prelude.{Ok, Err}
use Rattle.read_names.proofs.Names.{names_many}
use Rattle.dump_readings.proofs.IndexNames.{few_names, can_hold, of_index}
use Rattle.dump_readings.proofs.Taking.{event_as, taken_there, takes_start, takes_end, takes_refusal, takes_sign, takes_time, sign_inside, time_later, goes_ahead}
use Rattle.dump_readings.proofs.take_events.Goals as goal

pub slice_bounds-places-count : goal.slice_bounds-places-count
slice_bounds-places-count c =
    c.requires.0.long

pub loop-next-init : goal.loop-next-init
loop-next-init c =
    (takes_start c.new-w.ensures.start c.requires.4 (names_many _ _) (few_names c.args.s.now c.args.names.now c.requires.0) c.requires.1 c.requires.3, refl)

pub event_at-requires : goal.event_at-requires
event_at-requires c =
    let z = c.loop-next.invariant.0 in
    (c.requires.1, z.few, omega (arith, z.follow, z.few), z.inside)

pub bounds-signs-x : goal.bounds-signs-x
bounds-signs-x c =
    sign_inside c.loop-next.invariant.0 (event_as c.in_ok-event.ensures c.in-Sign.is)

pub overflow_add-next : goal.overflow_add-next
overflow_add-next c =
    omega (arith, sign_inside c.loop-next.invariant.0 (event_as c.in_ok-event.ensures c.in-Sign.is), c.loop-next.invariant.0.signed)

pub loop-next-smaller-in-Sign : goal.loop-next-smaller-in-Sign
loop-next-smaller-in-Sign c =
    goes_ahead c.loop-next.invariant.0 (sym c.in_ok-event.ensures)

pub loop-next-preserved-in-Sign : goal.loop-next-preserved-in-Sign
loop-next-preserved-in-Sign c =
    (takes_sign c.loop-next.invariant.0 (sym c.goes_on.ensures ∙ c.loop-next-test.true) (event_as c.in_ok-event.ensures c.in-Sign.is), c.loop-next.invariant.1)

pub write_held-requires : goal.write_held-requires
write_held-requires c =
    let later = time_later c.loop-next.invariant.0 (event_as c.in_ok-event.ensures c.in-Time.is) in
    (can_hold c.args.s.now c.args.names.now c.requires.0 c.loop-next.invariant.0.signed, later.0, omega (arith, later.1, c.requires.2), c.loop-next.invariant.0.room)

pub loop-next-smaller : goal.loop-next-smaller
loop-next-smaller c =
    goes_ahead c.loop-next.invariant.0 (sym c.in_ok-event.ensures)

pub loop-next-preserved : goal.loop-next-preserved
loop-next-preserved c =
    (takes_time c.loop-next.invariant.0 (sym c.goes_on.ensures ∙ c.loop-next-test.true) (event_as c.in_ok-event.ensures c.in-Time.is) c.write_held.ensures.0.wrote c.write_held.ensures.1, c.write_held.ensures.0.same ∙ c.loop-next.invariant.1)

pub returns-in_err-event : goal.returns-in_err-event
returns-in_err-event c =
    let refused : c.from_residual.result ≡ Err c.in_err-event.field-0.0 = search rules in
    taken_there (sym c.new-w.ensures.lent) (search rules) refused (of_index c.args.s.now c.args.names.now _ _ _ (takes_refusal c.loop-next.invariant.0 (sym c.goes_on.ensures ∙ c.loop-next-test.true) (sym c.in_err-event.ensures)))

pub write_held-requires-2 : goal.write_held-requires-2
write_held-requires-2 c =
    (can_hold c.args.s.now c.args.names.now c.requires.0 c.loop-next.invariant.0.signed, omega (arith, c.loop-next.invariant.0.low), c.requires.2, c.loop-next.invariant.0.room)

pub returns : goal.returns
returns c =
    taken_there (sym c.new-w.ensures.lent) (search rules) (ap Ok c.length.ensures) (of_index c.args.s.now c.args.names.now _ _ _ (takes_end c.loop-next.invariant.0 (sym c.goes_on.ensures ∙ c.loop-next-test.false) c.write_held-2.ensures.0.wrote))
