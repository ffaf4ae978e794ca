-- `digits` meets its contract. The invariant: what is left to read gives the same number, below 100000. Assumes nothing.
use native.Mathlib.Omega.{arith}
use mathlib.Core.Path.{◌≡◌, refl, sym, ◌∙◌}
use Prim.Native.Nat.{◌+◌, ◌-◌}
use Rattle.read_bytes.specs.Bytes.{byte}
use Rattle.read_bytes.proofs.Tests.{between_low, between_high}
use Rattle.read_bytes.proofs.Values.{ten_less, ten_most, digits_on, digits_off, digits_none}
use Rattle.read_bytes.proofs.numbers.digits.Goals as goal

pub loop-read-init : goal.loop-read-init
loop-read-init c =
    let all : c.args.most - 0 ≡ c.args.most = omega arith in
    rw all (refl, omega arith, ten_most c.args.most (omega arith))

pub overflow_mul-v : goal.overflow_mul-v
overflow_mul-v c = omega (arith, ten_less c.loop-read.v (c.args.most - c.loop-read.read))

pub overflow_add-v : goal.overflow_add-v
overflow_add-v c = omega (arith, ten_less c.loop-read.v (c.args.most - c.loop-read.read))

pub loop-read-preserved : goal.loop-read-preserved
loop-read-preserved c =
    let left : c.args.most - c.loop-read.read - 1 ≡ c.args.most - (c.loop-read.read + 1) = omega arith in
    let d = digits_on c.args.s.now (c.args.most - c.loop-read.read) c.loop-read.p c.loop-read.v _ (omega arith) c.byte_at-b.ensures (omega arith) (omega arith) in
    rw (← left) (c.loop-read.invariant.0 ∙ d.0, d.1, omega (arith, d.2))

pub returns-in_default : goal.returns-in_default
returns-in_default c =
    sym (c.loop-read.invariant.0 ∙ digits_off _ _ _ _ _ c.byte_at-b.ensures (between_low (byte "0") (byte "9") c.byte_at-b.result (omega arith)))

pub returns-in_default-2 : goal.returns-in_default-2
returns-in_default-2 c =
    sym (c.loop-read.invariant.0 ∙ digits_off _ _ _ _ _ c.byte_at-b.ensures (between_high (byte "0") (byte "9") c.byte_at-b.result (omega arith)))

pub returns : goal.returns
returns c =
    sym (c.loop-read.invariant.0 ∙ digits_none _ _ _ _ (omega arith))
