-- `write_end` meets its contract. Assumes nothing.
use Rattle.write_bytes.proofs.Writing.{like, and_then_lem, counted_like, counted_first, counted_rest}
use Rattle.write_formula.proofs.Parts.{minus_parts, plus_parts}
use Rattle.write_formula.proofs.write_end.Goals as goal

pub push-requires : goal.push-requires
push-requires c = counted_first _ (counted_like c.requires (minus_parts _ c.if-offset-lt-OFFSET_ZERO.true))

pub decimal-requires : goal.decimal-requires
decimal-requires c =
    counted_rest (counted_like c.requires (minus_parts _ c.if-offset-lt-OFFSET_ZERO.true)) c.push.ensures

pub returns-then-offset-lt-OFFSET_ZERO : goal.returns-then-offset-lt-OFFSET_ZERO
returns-then-offset-lt-OFFSET_ZERO c =
    like (minus_parts _ c.if-offset-lt-OFFSET_ZERO.true) (and_then_lem c.push.ensures c.decimal.ensures)

pub decimal-requires-else-offset-lt-OFFSET_ZERO : goal.decimal-requires-else-offset-lt-OFFSET_ZERO
decimal-requires-else-offset-lt-OFFSET_ZERO c = counted_like c.requires (plus_parts _ c.if-offset-lt-OFFSET_ZERO.false)

pub returns-else-offset-lt-OFFSET_ZERO : goal.returns-else-offset-lt-OFFSET_ZERO
returns-else-offset-lt-OFFSET_ZERO c =
    like (plus_parts _ c.if-offset-lt-OFFSET_ZERO.false) c.decimal-else-offset-lt-OFFSET_ZERO.ensures
