-- `digits_of` meets its contract. Assumes nothing.
use mathlib.Core.Path.{sym}
use native.Mathlib.Omega.{arith}
use Rattle.write_bytes.proofs.Decimals.{one_digit, two_digits, three_digits, four_digits}
use Rattle.write_bytes.proofs.digits_of.Goals as goal

pub returns-then-n-le9 : goal.returns-then-n-le9
returns-then-n-le9 c = sym (one_digit _ (omega arith))

pub returns-then-n-le99 : goal.returns-then-n-le99
returns-then-n-le99 c = sym (two_digits _ (omega arith) (omega arith))

pub returns-then-n-le999 : goal.returns-then-n-le999
returns-then-n-le999 c = sym (three_digits _ (omega arith) (omega arith))

pub returns : goal.returns
returns c = sym (four_digits _ (omega arith) (omega arith))
