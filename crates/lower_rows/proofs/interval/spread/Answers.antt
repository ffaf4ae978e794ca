-- `spread` meets its contract: the looks, then their joins. Assumes nothing.
use native.Mathlib.Omega.{arith}
use Rattle.lower_rows.proofs.Runs.{fits, buffer_on, spread_full, spread_then}
use Rattle.lower_rows.proofs.interval.spread.Goals as goal

pub returns-in_err-looks : goal.returns-in_err-looks
returns-in_err-looks c = rw c.from_residual.ensures (spread_full _ _ _ _ _ _ _ c.in_err-looks.ensures)

pub write_gates-requires : goal.write_gates-requires
write_gates-requires c =
    let R = fits c.in_ok-looks.ensures in
    record { joined_rows = (omega arith, omega arith); row_buffer = buffer_on c.requires.row_buffer R.room R.long }

pub returns : goal.returns
returns c = spread_then _ _ _ _ _ _ _ _ _ _ c.in_ok-looks.ensures c.write_gates.ensures
