-- `write_tick` meets its contract. Assumes nothing.
use Rattle.write_bytes.proofs.Writing.{and_then_lem, like, counted_like, counted_first, counted_rest}
use Rattle.spec_dump.specs.DumpTexts.{event_text}
use Rattle.dump_changes.specs.WordSigns.{row_sign}
use Rattle.dump_text.proofs.Events.{tick_moves}
use Rattle.dump_text.proofs.changes.write_tick.Goals as goal

pub write_number_line-requires : goal.write_number_line-requires
unfolding event_text
write_number_line-requires c =
    counted_first _ (counted_like c.requires.3 (tick_moves (row_sign c.args.n c.args.table.now) c.args.k c.args.tick c.requires.2))

pub write_differing-requires : goal.write_differing-requires
unfolding event_text
write_differing-requires c =
    (c.requires.0, c.requires.1, counted_rest (counted_like c.requires.3 (tick_moves (row_sign c.args.n c.args.table.now) c.args.k c.args.tick c.requires.2)) c.write_number_line.ensures)

pub returns : goal.returns
unfolding event_text
returns c =
    like (tick_moves (row_sign c.args.n c.args.table.now) c.args.k c.args.tick c.requires.2) (and_then_lem c.write_number_line.ensures c.write_differing.ensures)
