-- `push_row` meets its contract. Assumes nothing.
use native.Mathlib.Omega.{arith}
use Rattle.lower_rows.proofs.Runs.{stored, not_stored}
use Rattle.lower_rows.proofs.words.push_row.Goals as goal

pub returns-then-out-used-lt1 : goal.returns-then-out-used-lt1
returns-then-out-used-lt1 c = not_stored c.args.code c.args.used c.args.out.now (omega arith)

pub returns : goal.returns
returns c = stored c.args.code c.args.used c.args.out.now (omega arith)
