-- `put_noted` meets its contract. The invariant: the marks of the first i spans are put. Assumes nothing.
use Rattle.read_reading.specs.Spans.{marks_of_all}
use Rattle.table_marks.specs.Puts.{Puts}
use Rattle.read_readings.specs.SpanNumbers.{spans_in}
use Rattle.read_readings.proofs.noted.put_noted.Given as goal

abbrev pub invariant-loop-i : goal.invariant-loop-i
invariant-loop-i l = Puts l.n (marks_of_all (spans_in l.noted l.i)) l.initial.table l.table
