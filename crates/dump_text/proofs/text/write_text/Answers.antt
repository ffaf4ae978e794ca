-- `write_text` meets its contract. Assumes nothing.
use borrow.Author.Rules.{rules}
use Rattle.write_bytes.proofs.Writing.{and_then_lem, like, all_written, counted_start, counted_first, counted_rest}
use Rattle.dump_text.proofs.Wholes.{whole, whole_counted}
use Rattle.dump_text.proofs.text.write_text.Goals as goal

pub write_head-requires : goal.write_head-requires
write_head-requires c =
    (c.requires.0.few, counted_first _ (counted_start (whole_counted _ _ c.requires.0 c.requires.1) c.new-w.ensures.start))

pub write_first-requires : goal.write_first-requires
write_first-requires c =
    (c.requires.0, counted_first _ (counted_rest (counted_start (whole_counted _ _ c.requires.0 c.requires.1) c.new-w.ensures.start) c.write_head.ensures))

pub write_changes-requires : goal.write_changes-requires
write_changes-requires c =
    (c.requires.0, counted_rest (counted_rest (counted_start (whole_counted _ _ c.requires.0 c.requires.1) c.new-w.ensures.start) c.write_head.ensures) c.write_first.ensures)

pub returns : goal.returns
returns c =
    all_written (like (whole c.args.s.now c.args.places.now c.requires.0) (and_then_lem c.write_head.ensures (and_then_lem c.write_first.ensures c.write_changes.ensures))) c.new-w.ensures.lent c.new-w.ensures.start (search rules) c.length.ensures
