-- `write_noted` meets its contract. Assumes nothing.
use native.Mathlib.Omega.{arith}
use Rattle.read_names.proofs.Names.{names_many}
use Rattle.op_moves.proofs.Noted.{can_write}
use Rattle.op_moves.proofs.Outcomes.{within_counted, too_long, too_little, all_written}
use Rattle.op_moves.proofs.moves.write_noted.Goals as goal

pub overflow_mul-places : goal.overflow_mul-places
overflow_mul-places c =
    omega (arith, simp names_many at c.requires.few)

pub sort_below-requires : goal.sort_below-requires
sort_below-requires c =
    simp names_many at c.requires.rows

pub moved_length-length-requires : goal.moved_length-length-requires
moved_length-length-requires c =
    can_write c.sort_below.ensures c.requires

pub returns-then-length-gt-BYTES : goal.returns-then-length-gt-BYTES
returns-then-length-gt-BYTES c =
    too_long _ _ c.sort_below.ensures c.requires c.moved_length-length.ensures c.if-length-gt-BYTES.true

pub returns-then-out-length : goal.returns-then-out-length
returns-then-out-length c =
    too_little _ _ c.sort_below.ensures c.requires c.moved_length-length.ensures c.if-length-gt-BYTES.false c.if-out-length.true

pub write_moved-requires : goal.write_moved-requires
write_moved-requires c =
    (can_write c.sort_below.ensures c.requires, within_counted c.moved_length-length.ensures c.if-length-gt-BYTES.false)

pub returns : goal.returns
returns c =
    all_written _ _ c.sort_below.ensures c.requires c.moved_length-length.ensures c.if-length-gt-BYTES.false c.if-out-length.false c.write_moved.ensures
