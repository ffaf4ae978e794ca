-- `name_at` meets its contract. Assumes nothing.
use native.Mathlib.Omega.{arith}
use mathlib.Core.Path.{sym, ◌∙◌}
use Rattle.read_bytes.specs.Bytes.{byte, name_byte}
use Rattle.read_bytes.proofs.Runs.{end_reach}
use Rattle.read_bytes.proofs.Tests.{between_low, between_high}
use Rattle.read_names.proofs.EndPlaces.{spelled}
use Rattle.read_names.proofs.Names.{name_not, name_long, name_reserved, name_is}
use Rattle.read_names.proofs.name_at.Goals as goal

pub overflow_sub-e : goal.overflow_sub-e
overflow_sub-e c =
    let a = c.args in
    let w = end_reach name_byte a.s.now a.at (omega arith) in
    omega (arith, w.ahead, c.spelling_end-e.ensures)

pub is_reserved-requires : goal.is_reserved-requires
is_reserved-requires c = spelled _ _ (omega arith) c.spelling_end-e.ensures

pub returns-then-is_reserved : goal.returns-then-is_reserved
returns-then-is_reserved c =
    name_reserved _ _ _ c.byte_at-b.ensures _ c.spelling_end-e.ensures (omega arith) (omega arith) c.if-e-at-le-NAME_BYTES.true (sym c.is_reserved.ensures ∙ c.if-is_reserved.true)

pub name_to-requires : goal.name_to-requires
name_to-requires c = spelled _ _ (omega arith) c.spelling_end-e.ensures

pub returns-then-e-at-le-NAME_BYTES : goal.returns-then-e-at-le-NAME_BYTES
returns-then-e-at-le-NAME_BYTES c =
    c.name_to.ensures ∙ name_is _ _ _ c.byte_at-b.ensures _ c.spelling_end-e.ensures (omega arith) (omega arith) c.if-e-at-le-NAME_BYTES.true (sym c.is_reserved.ensures ∙ c.if-is_reserved.false)

pub returns-else-e-at-le-NAME_BYTES : goal.returns-else-e-at-le-NAME_BYTES
returns-else-e-at-le-NAME_BYTES c =
    name_long _ _ _ c.byte_at-b.ensures _ c.spelling_end-e.ensures (omega arith) (omega arith) c.if-e-at-le-NAME_BYTES.false

pub returns-in_default : goal.returns-in_default
returns-in_default c = name_not _ _ _ c.byte_at-b.ensures (between_low (byte "a") (byte "z") c.byte_at-b.result (omega arith))

pub returns-in_default-2 : goal.returns-in_default-2
returns-in_default-2 c = name_not _ _ _ c.byte_at-b.ensures (between_high (byte "a") (byte "z") c.byte_at-b.result (omega arith))
