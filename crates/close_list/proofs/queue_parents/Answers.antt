-- `queue_parents` meets its contract. Assumes nothing.
use native.Mathlib.Omega.{arith}
use Rattle.close_list.proofs.Queueing.{column_in}
use Rattle.close_list.proofs.queue_parents.Goals as goal

pub overflow_mul-q : goal.overflow_mul-q
overflow_mul-q c =
    let a = c.args in
    let o = c.requires in
    omega (arith, column_in _ a.n a.q _ o.x_lt_count.1 o.list_fits.long)

pub enter_parents-requires : goal.enter_parents-requires
enter_parents-requires c =
    let a = c.args in
    let o = c.requires in
    let k = o.ended in
    (k.2 _ o.x_lt_count.0, k.1, omega (arith, column_in _ a.n a.q _ o.x_lt_count.1 o.list_fits.long))
