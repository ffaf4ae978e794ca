-- `write_refusal` meets its contract. Assumes nothing.
use borrow.Author.Rules.{rules}
use native.Mathlib.Omega.{arith}
use Rattle.write_bytes.proofs.Writing.{and_then_lem, all_written}
use Rattle.list_table.specs.Listing.{refusal_text}
use Rattle.list_table.proofs.Lengths.{number_counted, number_ends}
use Rattle.list_table.proofs.whole.write_refusal.Goals as goal

pub write_number_line-requires : goal.write_number_line-requires
write_number_line-requires c = number_counted _ _ (omega (arith, c.new-w.ensures.start))

pub write_number_line-requires-2 : goal.write_number_line-requires-2
write_number_line-requires-2 c =
    number_counted _ _ (omega (arith, c.new-w.ensures.start, number_ends _ _ c.write_number_line.ensures))

pub returns : goal.returns
unfolding refusal_text
returns c =
    all_written (and_then_lem c.write_number_line.ensures c.write_number_line-2.ensures) c.new-w.ensures.lent c.new-w.ensures.start (search rules) c.length.ensures
