-- `write_tick` meets its contract. The invariant: the signs of the signals from x on are left to be written. Assumes nothing.
use mathlib.Core.Path.{refl}
use native.Mathlib.Omega.{arith}
use Rattle.read_names.proofs.Names.{names_many}
use Rattle.write_bytes.proofs.Writing.{counted_like, counted_first}
use Rattle.write_bytes.proofs.Leaves.{left_all, left_rest, left_none, counted_left}
use Rattle.dump_readings.proofs.SignTexts.{next_signal, no_signal}
use Rattle.dump_readings.proofs.HeldTexts.{tick_counted}
use Rattle.dump_readings.proofs.write_tick.Goals as goal

pub loop-x-init : goal.loop-x-init
loop-x-init c = left_all refl

pub bounds-signs-x : goal.bounds-signs-x
bounds-signs-x c =
    omega (arith, c.requires.0.signed, names_many c.args.s.now c.args.places.now)

pub write_sign-requires : goal.write_sign-requires
write_sign-requires c =
    (c.loop-x-test.true, counted_first _ (counted_like (counted_left (tick_counted c.requires.0 c.requires.1 c.requires.2) c.loop-x.invariant) (next_signal _ _ _ _ _ (omega (arith, c.loop-x-test.true, names_many c.args.s.now c.args.places.now)))))

pub loop-x-preserved : goal.loop-x-preserved
loop-x-preserved c =
    left_rest _ c.loop-x.invariant c.write_sign.ensures (next_signal _ _ _ _ _ (omega (arith, c.loop-x-test.true, names_many c.args.s.now c.args.places.now)))

pub returns : goal.returns
returns c =
    left_none c.loop-x.invariant (no_signal _ _ _ _ _ (omega (arith, c.loop-x-test.false, names_many c.args.s.now c.args.places.now)))
