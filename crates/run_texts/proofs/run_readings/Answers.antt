-- `run_readings` meets its contract. Assumes nothing.
use Rattle.std.proofs.Common.{arith}
use lib.ListN.{length-take}
use Rattle.open_sheet.proofs.Buffers.{fresh_names}
use Rattle.run_texts.proofs.run_readings.Goals as goal

pub head-requires : goal.head-requires
head-requires g c = (fresh_names, omega (arith, c.if-n-gt-BYTES.false))

pub take_readings-answer-requires : goal.take_readings-answer-requires
take_readings-answer-requires g c =
    let h = c.in-Ok.ensures in
    record { index = h.put.index; some = h.sizes.window_low; ticks = omega (arith, h.sizes.window_high); covered = omega (arith, h.sizes.window_high); room = simp length-take (omega (arith, h.sizes.signals_high)) }
