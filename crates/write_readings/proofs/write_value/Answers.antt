-- `write_value` meets its contract. Assumes nothing.
use mathlib.Core.Path.{◌≡◌, refl}
use Rattle.read_bytes.specs.Bytes.{bytes}
use Rattle.write_lines.specs.LineTexts.{number_text, one_if}
use Rattle.write_bytes.proofs.Writing.{like, and_then_lem, counted_like, counted_first, counted_rest}
use Rattle.write_readings.proofs.Parts.{value_parts, value_one, value_nought, value_with}
use Rattle.write_readings.proofs.write_value.Goals as goal
use Rattle.write_readings.proofs.write_value.Goals.{then-value, else-value}

pub write_name_line-requires : goal.write_name_line-requires
write_name_line-requires c =
    counted_first _ (counted_like c.requires.1 (value_parts _ _ _ _ _ c.requires.0 refl))

pub push_text-requires : goal.push_text-requires
push_text-requires c =
    let line : number_text (bytes "value=") (one_if c.args.value) ≡ c.if-value.line.now = elim c.if-value.branch [
      | then-value w ↦ rw (w.if-value.true, w.line-is) value_one
      | else-value w ↦ rw (w.if-value.false, w.line-is) value_nought
    ] in
    counted_rest (counted_like c.requires.1 (value_with _ _ _ _ _ c.requires.0 line)) c.write_name_line.ensures

pub returns : goal.returns
returns c =
    let line : number_text (bytes "value=") (one_if c.args.value) ≡ c.if-value.line.now = elim c.if-value.branch [
      | then-value w ↦ rw (w.if-value.true, w.line-is) value_one
      | else-value w ↦ rw (w.if-value.false, w.line-is) value_nought
    ] in
    like (value_with _ _ _ _ _ c.requires.0 line) (and_then_lem c.write_name_line.ensures c.push_text.ensures)
