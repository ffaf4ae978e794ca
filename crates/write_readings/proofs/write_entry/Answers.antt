-- `write_entry` meets its contract. Assumes nothing.
use Rattle.write_bytes.proofs.Writing.{like, and_then_lem, counted_like, counted_first, counted_rest}
use Rattle.write_readings.proofs.Parts.{span_parts, reading_parts}
use Rattle.write_readings.proofs.write_entry.Goals as goal
use Rattle.write_readings.proofs.write_entry.Goals.{then-spans, else-spans}

pub write_number_line-requires : goal.write_number_line-requires
write_number_line-requires c = counted_first _ (counted_like c.requires.1 (span_parts _ _ _ _ _ _ c.if-spans.true))

pub write_number_line-requires-then-spans : goal.write_number_line-requires-then-spans
write_number_line-requires-then-spans c =
    counted_first _ (counted_rest (counted_like c.requires.1 (span_parts _ _ _ _ _ _ c.if-spans.true)) c.write_number_line.ensures)

pub write_number_line-requires-else-spans : goal.write_number_line-requires-else-spans
write_number_line-requires-else-spans c = counted_first _ (counted_like c.requires.1 (reading_parts _ _ _ _ _ _ c.if-spans.false))

pub write_value-requires : goal.write_value-requires
write_value-requires c = (
  c.requires.0,
  elim c.if-spans.branch [
    | then-spans w ↦ rw w.w-is (counted_rest (counted_rest (counted_like c.requires.1 (span_parts _ _ _ _ _ _ w.if-spans.true)) w.write_number_line.ensures) w.write_number_line-then-spans.ensures)
    | else-spans w ↦ rw w.w-is (counted_rest (counted_like c.requires.1 (reading_parts _ _ _ _ _ _ w.if-spans.false)) w.write_number_line-else-spans.ensures)
  ],
)

pub returns : goal.returns
returns c =
    elim c.if-spans.branch [
      | then-spans w ↦ like (span_parts _ _ _ _ _ _ w.if-spans.true) (and_then_lem w.write_number_line.ensures (and_then_lem w.write_number_line-then-spans.ensures (rw w.w-is at c.write_value.ensures)))
      | else-spans w ↦ like (reading_parts _ _ _ _ _ _ w.if-spans.false) (and_then_lem w.write_number_line-else-spans.ensures (rw w.w-is at c.write_value.ensures))
    ]
