-- `number_at` meets its contract. Assumes nothing.
use native.Mathlib.Omega.{arith}
use mathlib.Core.Path.{ap, ◌∙◌}
use Rattle.std.specs.Prelude.{Some}
use Rattle.read_bytes.specs.Bytes.{byte}
use Rattle.read_bytes.proofs.Tests.{between_low, between_high}
use Rattle.read_bytes.proofs.Values.{number_zero, number_some, number_none}
use Rattle.read_bytes.proofs.numbers.number_at.Goals as goal

pub returns-in-48 : goal.returns-in-48
returns-in-48 c = number_zero _ _ _ c.byte_at-b.ensures c.in-48.is

pub returns-in-49-to-57 : goal.returns-in-49-to-57
returns-in-49-to-57 c =
    ap Some c.digits.ensures ∙ number_some _ _ _ c.byte_at-b.ensures (omega arith) (omega arith)

pub returns-in_default : goal.returns-in_default
returns-in_default c =
    number_none _ _ _ c.byte_at-b.ensures c.in_default.in_default-own.rest.1 (between_low (byte "1") (byte "9") c.byte_at-b.result (omega arith))

pub returns-in_default-2 : goal.returns-in_default-2
returns-in_default-2 c =
    number_none _ _ _ c.byte_at-b.ensures c.in_default.in_default-own.rest.1 (between_high (byte "1") (byte "9") c.byte_at-b.result (omega arith))
