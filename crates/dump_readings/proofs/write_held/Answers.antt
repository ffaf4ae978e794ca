-- `write_held` meets its contract. The invariant: the readings from `tick` on are left to be written. Assumes nothing.
use mathlib.Core.Path.{refl}
use native.Mathlib.Omega.{arith}
use Rattle.write_bytes.proofs.Leaves.{left_all, left_rest, left_none}
use Rattle.dump_readings.proofs.SignTexts.{next_tick, no_tick_lem}
use Rattle.dump_readings.proofs.HeldTexts.{tick_end}
use Rattle.dump_readings.proofs.write_held.Goals as goal

pub loop-tick-init : goal.loop-tick-init
loop-tick-init c =
    (left_all refl, c.requires.3)

pub write_tick-requires : goal.write_tick-requires
write_tick-requires c =
    (c.requires.0, omega (arith, c.loop-tick-test.true, c.requires.2), c.loop-tick.invariant.1)

pub loop-tick-preserved : goal.loop-tick-preserved
loop-tick-preserved c = (
  left_rest _ c.loop-tick.invariant.0 c.write_tick.ensures (next_tick _ _ _ _ c.loop-tick-test.true),
  tick_end c.requires.0 (omega (arith, c.loop-tick-test.true, c.requires.2)) c.loop-tick.invariant.1 c.write_tick.ensures.wrote,
)

pub returns : goal.returns
returns c = (left_none c.loop-tick.invariant.0 (no_tick_lem _ _ _ _ c.loop-tick-test.false), omega (arith, c.loop-tick.invariant.1, c.loop-tick-test.false))
