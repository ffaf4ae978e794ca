-- `enter_own` meets its contract. Assumes nothing.
use native.Mathlib.Omega.{arith}
use Rattle.close_list.proofs.Queueing.{column_in, words_few, enters_none, enters_own, enters_two}
use Rattle.close_rules.proofs.KindNumbers.{other_number}
use Rattle.close_list.proofs.ByKind.{offset_below, row_own_none, row_own_look, row_own_here}
use Rattle.close_list.proofs.enter_own.Goals as goal

pub returns-in-Signal : goal.returns-in-Signal
returns-in-Signal c =
    let a = c.args in
    enters_none _ _ (λ i y h. row_own_none a.on.now.count a.on.now.rows.now a.x (rw c.in-Signal.is at c.kind_of.ensures) _ _ h.1.1.1)

pub overflow_add-seen : goal.overflow_add-seen
overflow_add-seen c =
    let a = c.args in
    let o = c.requires in
    omega (arith, offset_below a.on.now.count a.on.now.rows.now a.x o.coded (rw c.in-Look.is at c.kind_of.ensures), words_few a.on.now.count a.n a.q a.todo.now (omega arith) o.x_lt_count.1 o.list_fits)

pub overflow_add-seen-in-Look : goal.overflow_add-seen-in-Look
overflow_add-seen-in-Look c =
    let a = c.args in
    let o = c.requires in
    omega (arith, offset_below a.on.now.count a.on.now.rows.now a.x o.coded (rw c.in-Look.is at c.kind_of.ensures), words_few a.on.now.count a.n a.q a.todo.now (omega arith) o.x_lt_count.1 o.list_fits)

pub returns-in-Look : goal.returns-in-Look
returns-in-Look c =
    let enter-before = c.enter_before in
    let enter-before2 = c.enter_before-in-Look in
    let a = c.args in
    enters_two _ _ _ _ _ (λ p h. row_own_look a.on.now.count a.on.now.rows.now a.x (rw c.in-Look.is at c.kind_of.ensures) _ _ h) enter-before.ensures enter-before2.ensures

pub overflow_mul-q : goal.overflow_mul-q
overflow_mul-q c =
    let a = c.args in
    let o = c.requires in
    omega (arith, column_in _ a.n a.q _ o.x_lt_count.1 o.list_fits.long)

pub enter-requires : goal.enter-requires
enter-requires c =
    let a = c.args in
    let o = c.requires in
    omega (arith, column_in _ a.n a.q _ o.x_lt_count.1 o.list_fits.long)

pub returns-in_default : goal.returns-in_default
returns-in_default c =
    let enter = c.enter in
    let a = c.args in
    enters_own _ _ _ _ _ (λ p h. row_own_here a.on.now.count a.on.now.rows.now a.x (other_number _ c.kind_of.ensures c.in_default.not-Look) _ _ h) enter.ensures
