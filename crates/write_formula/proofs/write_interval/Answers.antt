-- `write_interval` meets its contract. Assumes nothing.
use Rattle.write_bytes.proofs.Writing.{like, and_then_lem, counted_like, counted_first, counted_rest}
use mathlib.Core.Path.{refl}
use Rattle.write_formula.proofs.Parts.{interval_parts}
use Rattle.write_formula.proofs.write_interval.Goals as goal

pub push-requires : goal.push-requires
push-requires c = counted_first _ (counted_like c.requires (interval_parts _ _ _ _ refl refl))

pub write_end-requires : goal.write_end-requires
write_end-requires c =
    counted_first _ (counted_rest (counted_like c.requires (interval_parts _ _ _ _ refl refl)) c.push.ensures)

pub push-requires-2 : goal.push-requires-2
push-requires-2 c =
    counted_first _ (counted_rest (counted_rest (counted_like c.requires (interval_parts _ _ _ _ refl refl)) c.push.ensures) c.write_end.ensures)

pub write_end-requires-2 : goal.write_end-requires-2
write_end-requires-2 c =
    counted_first _ (counted_rest (counted_rest (counted_rest (counted_like c.requires (interval_parts _ _ _ _ refl refl)) c.push.ensures) c.write_end.ensures) c.push-2.ensures)

pub push-requires-3 : goal.push-requires-3
push-requires-3 c =
    counted_rest (counted_rest (counted_rest (counted_rest (counted_like c.requires (interval_parts _ _ _ _ refl refl)) c.push.ensures) c.write_end.ensures) c.push-2.ensures) c.write_end-2.ensures

pub returns : goal.returns
returns c =
    like (interval_parts _ _ _ _ refl refl) (and_then_lem c.push.ensures (and_then_lem c.write_end.ensures (and_then_lem c.push-2.ensures (and_then_lem c.write_end-2.ensures c.push-3.ensures))))
