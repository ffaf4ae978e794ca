-- `name_length` meets its contract: the name ends where its spelling does. Assumes nothing.
use native.Mathlib.Omega.{arith}
use mathlib.Core.Path.{ap}
use lib.ListN.{length}
use Rattle.read_bytes.specs.Bytes.{run_end}
use Rattle.read_names.proofs.Names.{names_at_lem}
use Rattle.write_readings.proofs.name_length.Goals as goal

pub overflow_sub-result : goal.overflow_sub-result
unfolding run_end
overflow_sub-result c = omega (arith, c.spelling_end.ensures)

pub returns : goal.returns
unfolding run_end
returns c =
    omega (arith, c.spelling_end.ensures, ap length (names_at_lem c.args.s.now c.args.places.now c.args.signal c.requires))
