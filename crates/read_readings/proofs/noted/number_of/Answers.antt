-- `number_of` meets its contract. Assumes nothing.
use native.Mathlib.Omega.{arith}
use Rattle.std.specs.Int.{from_bool}
use Rattle.read_readings.proofs.Numbers.{side_is, number_is}
use Rattle.read_readings.proofs.noted.number_of.Goals as goal

pub returns : goal.returns
returns c =
    let side = side_is c.args.value in
    number_is _ _ (from_bool c.args.value) _ _ (omega arith) (omega arith) side.0 (omega arith) side.1
