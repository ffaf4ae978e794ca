-- `put_noted` meets its contract. The invariant: the marks of the first i spans are put. Assumes nothing.
use mathlib.Core.Path.{◌≡◌, ap}
use mathlib.Core.List.{flatten}
use native.Mathlib.Omega.{arith}
use Rattle.read_reading.specs.Spans.{marks_of_all}
use Rattle.table_marks.proofs.Marks.{puts_none, puts_same}
use Rattle.read_readings.specs.SpanNumbers.{spans_in, SpanRoom}
use Rattle.read_readings.proofs.Numbers.{spans_all, puts_span}
use Rattle.read_readings.proofs.noted.put_noted.Goals as goal

pub loop-i-init : goal.loop-i-init
unfolding spans_in marks_of_all flatten
loop-i-init c = puts_none _ _

pub put_span-requires : goal.put_span-requires
put_span-requires c =
    let m = spans_all (SpanRoom _ _) _ _ _ c.loop-i-test.true c.requires.0 c.requires.1 in
    (m.order, m.ticks, omega (arith, m.row, c.loop-i.invariant.size))

pub loop-i-preserved : goal.loop-i-preserved
loop-i-preserved c = puts_span _ _ _ (omega arith) c.loop-i.invariant c.put_span.ensures

pub returns : goal.returns
returns c =
    let e : c.loop-i.i ≡ c.args.count = omega arith in
    puts_same _ _ (ap marks_of_all (ap (spans_in _) e)) c.loop-i.invariant
