-- `enter_before` meets its contract. Assumes nothing.
use native.Mathlib.Omega.{arith}
use mathlib.Core.Path.{ap, ◌∙◌}
use Prim.Native.Nat.{ℕ, ◌-◌, ◌*◌}
use Rattle.close_list.proofs.Queueing.{column_in, enters_as}
use Rattle.close_list.proofs.enter_before.Goals as goal

pub overflow_mul-p : goal.overflow_mul-p
overflow_mul-p c =
    let a = c.args in
    let o = c.requires in
    omega (arith, column_in a.stride a.n (a.p - 1) _ (omega arith) o.n_in_bounds)

pub enter-requires : goal.enter-requires
enter-requires c =
    let a = c.args in
    let o = c.requires in
    omega (arith, column_in a.stride a.n (a.p - 1) _ (omega arith) o.n_in_bounds)

pub returns : goal.returns
returns c =
    let enter = c.enter in
    let a = c.args in
    enters_as _ _ (λ i y h. (h.1.2 ∙ ap (λ (q : ℕ). q * a.stride) (omega (arith, h.1.1)), h.0)) enter.ensures
