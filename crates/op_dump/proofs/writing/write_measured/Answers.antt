-- `write_measured` meets its contract. Assumes nothing.
use Rattle.op_dump.proofs.Measured.{too_long, all_fits}
use Rattle.op_dump.proofs.writing.write_measured.Goals as goal

pub write_text-long-requires : goal.write_text-long-requires
write_text-long-requires c =
    c.requires

pub returns-then-out-long : goal.returns-then-out-long
returns-then-out-long c = too_long c.write_text-long.ensures c.if-out-long.true

pub write_text-requires : goal.write_text-requires
write_text-requires c =
    c.requires

pub returns : goal.returns
returns c = all_fits c.write_text-long.ensures c.if-out-long.false c.write_text.ensures
