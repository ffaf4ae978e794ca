-- `inside_window` meets its contract. The invariant: the last words of the blocks before k have no tick past the window. Assumes nothing.
use native.Mathlib.Omega.{arith}
use mathlib.Core.Path.{refl}
use Prim.Native.Nat.{◌*◌}
use native.Mathlib.Nat.{mul-le-mul_left}
use Rattle.table_facts.proofs.Window.{last_ticks, below_inside, past_outside}
use Rattle.table_facts.proofs.inside_window.Goals as goal

pub overflow_sub-last : goal.overflow_sub-last
overflow_sub-last c = omega (arith, last_ticks _ _ c.requires.2 c.requires.1)

pub overflow_mul-ticks : goal.overflow_mul-ticks
overflow_mul-ticks c = omega (arith, last_ticks _ _ c.requires.2 c.requires.1)

pub overflow_sub-ticks : goal.overflow_sub-ticks
overflow_sub-ticks c = omega (arith, last_ticks _ _ c.requires.2 c.requires.1)

pub overflow_mul-blocks : goal.overflow_mul-blocks
overflow_mul-blocks c =
    omega (arith, mul-le-mul_left (2 * c.args.count) (last_ticks _ _ c.requires.2 c.requires.1).0)

pub loop-k-init : goal.loop-k-init
loop-k-init c =
    let a = c.args in
    let w = last_ticks a.n a.window c.requires.2 c.requires.1 in
    (refl, omega (arith, w), w.1, omega (arith, w, c.if-ticks-eq64.false), λ j l. absurd (omega arith))

pub returns-then-marks-k-ne0 : goal.returns-then-marks-k-ne0
returns-then-marks-k-ne0 c =
    let l = c.loop-k in
    (λ e. cc, λ h. absurd (past_outside _ _ _ _ _ l.invariant.1 l.invariant.2 _ c.requires.0 l.k (omega arith) c.if-marks-k-ne0.true h))

pub returns : goal.returns
returns c =
    let l = c.loop-k in
    (λ e. below_inside _ _ _ _ _ l.invariant.1 l.invariant.2 _ c.requires.0 (λ k h. l.invariant.4 k (omega arith)), λ h. refl)
