-- `write_head` meets its contract. Assumes nothing.
use native.Mathlib.Omega.{arith}
use mathlib.Core.Path.{refl, ◌∙◌}
use Rattle.write_bytes.proofs.Writing.{and_then_lem, all_written}
use Rattle.list_table.specs.Listing.{head_text}
use Rattle.list_table.proofs.Lengths.{number_counted, number_ends}
use Rattle.list_table.proofs.whole.write_head.Goals as goal

pub write_number_line-requires : goal.write_number_line-requires
write_number_line-requires c = number_counted _ _ (omega (arith, c.new-w.ensures.start))

pub write_number_line-requires-2 : goal.write_number_line-requires-2
write_number_line-requires-2 c =
    number_counted _ _ (omega (arith, c.new-w.ensures.start, number_ends _ _ c.write_number_line.ensures))

pub write_number_line-requires-3 : goal.write_number_line-requires-3
write_number_line-requires-3 c =
    number_counted _ _ (omega (arith, c.new-w.ensures.start, number_ends _ _ c.write_number_line.ensures, number_ends _ _ c.write_number_line-2.ensures))

pub write_number_line-requires-4 : goal.write_number_line-requires-4
write_number_line-requires-4 c =
    number_counted _ _ (omega (arith, c.new-w.ensures.start, number_ends _ _ c.write_number_line.ensures, number_ends _ _ c.write_number_line-2.ensures, number_ends _ _ c.write_number_line-3.ensures))

pub returns : goal.returns
unfolding head_text
returns c =
    let lines = and_then_lem c.write_number_line.ensures (and_then_lem c.write_number_line-2.ensures (and_then_lem c.write_number_line-3.ensures (rw c.one_if.ensures at c.write_number_line-4.ensures))) in
    record { same = lines.same ∙ c.new-w.ensures.same; head = all_written lines c.new-w.ensures.lent c.new-w.ensures.start refl refl }
