-- `entry_length` meets its contract. Assumes nothing.
use native.Mathlib.Omega.{arith}
use Rattle.write_bytes.proofs.Decimals.{decimal_most}
use Rattle.write_readings.proofs.Lengths.{span_long, reading_long}
use Rattle.write_readings.proofs.entry_length.Goals as goal

pub overflow_add-result : goal.overflow_add-result
overflow_add-result c = omega (arith, decimal_most 3 _ c.requires.1, decimal_most 3 _ c.requires.2)

pub overflow_add-result-then-spans : goal.overflow_add-result-then-spans
overflow_add-result-then-spans c = omega (arith, decimal_most 3 _ c.requires.1, decimal_most 3 _ c.requires.2)

pub overflow_add-result-then-spans-2 : goal.overflow_add-result-then-spans-2
overflow_add-result-then-spans-2 c = omega (arith, decimal_most 3 _ c.requires.1, decimal_most 3 _ c.requires.2)

pub overflow_add-result-else-spans : goal.overflow_add-result-else-spans
overflow_add-result-else-spans c = omega (arith, decimal_most 3 _ c.requires.1)

pub overflow_add-result-else-spans-2 : goal.overflow_add-result-else-spans-2
overflow_add-result-else-spans-2 c = omega (arith, decimal_most 3 _ c.requires.1)

pub returns-then-spans : goal.returns-then-spans
returns-then-spans c = (omega (arith, decimal_most 3 _ c.requires.1, decimal_most 3 _ c.requires.2), span_long _ _ c.if-spans.true c.digits_of.ensures c.digits_of-then-spans.ensures)

pub returns-else-spans : goal.returns-else-spans
returns-else-spans c = (omega (arith, decimal_most 3 _ c.requires.1), reading_long _ _ c.if-spans.false c.digits_of-else-spans.ensures)
