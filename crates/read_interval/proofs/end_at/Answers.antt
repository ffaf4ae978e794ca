-- `end_at` meets its contract. Assumes nothing.
use native.Mathlib.Omega.{arith}
use mathlib.Core.Path.{ap, ◌∙◌}
use Rattle.std.specs.Prelude.{Some}
use Rattle.read_bytes.specs.Bytes.{byte}
use Rattle.read_bytes.proofs.Tests.{between_in, between_low, between_high}
use Rattle.read_interval.proofs.Ends.{past, end_zero_lem, end_plus, end_minus, end_none}
use Rattle.read_interval.proofs.end_at.Goals as goal

pub signed-requires : goal.signed-requires
signed-requires c =
    past _ _ _ c.byte_at-b.ensures (λ e. omega (arith, c.in-45.is))

pub returns-in-48 : goal.returns-in-48
returns-in-48 c = end_zero_lem _ _ _ c.byte_at-b.ensures c.in-48.is

pub returns-in-49-to-57-e : goal.returns-in-49-to-57-e
returns-in-49-to-57-e c =
    ap Some c.signed.ensures ∙ end_minus _ _ _ c.byte_at-b.ensures _ c.byte_at-e.ensures c.in-45.is (between_in (byte "1") (byte "9") c.byte_at-e.result (omega arith) (omega arith))

pub returns-in_default-e : goal.returns-in_default-e
returns-in_default-e c = end_minus _ _ _ c.byte_at-b.ensures _ c.byte_at-e.ensures c.in-45.is (between_low (byte "1") (byte "9") c.byte_at-e.result (omega arith))

pub returns-in_default-e-2 : goal.returns-in_default-e-2
returns-in_default-e-2 c =
    end_minus _ _ _ c.byte_at-b.ensures _ c.byte_at-e.ensures c.in-45.is (between_high (byte "1") (byte "9") c.byte_at-e.result (omega arith))

pub returns-in-49-to-57 : goal.returns-in-49-to-57
returns-in-49-to-57 c =
    ap Some c.signed-in-49-to-57.ensures ∙ end_plus _ _ _ c.byte_at-b.ensures (omega arith) (omega arith)

pub returns-in_default : goal.returns-in_default
returns-in_default c = end_none _ _ _ c.byte_at-b.ensures c.in_default.in_default-own.rest.0.1 c.in_default.in_default-own.rest.1 (between_low (byte "1") (byte "9") c.byte_at-b.result (omega arith))

pub returns-in_default-2 : goal.returns-in_default-2
returns-in_default-2 c = end_none _ _ _ c.byte_at-b.ensures c.in_default.in_default-own.rest.0.1 c.in_default.in_default-own.rest.1 (between_high (byte "1") (byte "9") c.byte_at-b.result (omega arith))
