-- `decimal` meets its contract: each call writes a number with one digit fewer. Assumes nothing.
use native.Mathlib.Omega.{arith}
use Rattle.write_bytes.proofs.Writing.{like, and_then_lem, counted_like, counted_first}
use Rattle.write_bytes.proofs.Decimals.{decimal_one, decimal_more, decimal_longer}
use Rattle.write_bytes.proofs.Writer.+decimal.Goals as goal

pub push-requires : goal.push-requires
push-requires t c = counted_like c.requires (decimal_one _ (omega arith))

pub returns-then-n-lt10 : goal.returns-then-n-lt10
returns-then-n-lt10 t c = like (decimal_one _ (omega arith)) c.push.ensures

pub decimal-requires : goal.decimal-requires
decimal-requires t c = (omega arith, counted_first _ (counted_like c.requires (decimal_more _ (omega arith) (omega arith))))

pub push-requires-2 : goal.push-requires-2
push-requires-2 t c =
    record { below = omega (arith, decimal_longer c.args.n (omega arith) (omega arith), c.requires.below, c.decimal.ensures.wrote.next) }

pub returns : goal.returns
returns t c = like (decimal_more _ (omega arith) (omega arith)) (and_then_lem c.decimal.ensures c.push-2.ensures)
