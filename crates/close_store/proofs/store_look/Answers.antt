-- `store_look` meets its contract. Assumes nothing.
use native.Mathlib.Omega.{arith}
use mathlib.Core.Path.{ap}
use Rattle.table_words.specs.WordTicks.{one_if}
use Rattle.close_store.proofs.Storing.{enters_as_none, enters_look}
use Rattle.close_store.proofs.store_look.Goals as goal

pub returns-then-j : goal.returns-then-j
returns-then-j c =
    let enter-before = c.enter_before in
    let store-own = c.store_own-j in
    let a = c.args in
    record { joins = store-own.ensures.joins; reads = store-own.ensures.reads; queues_if = enters_look _ a.on.now.heads.now a.on.now.nexts.now _ _ _ _ _ (rw c.if-j.true (omega arith)) store-own.ensures.queues_if enter-before.ensures }

pub returns-else-j : goal.returns-else-j
returns-else-j c =
    let store-own = c.store_own-j in
    record { joins = store-own.ensures.joins; reads = store-own.ensures.reads; queues_if = enters_as_none _ (ap one_if c.if-j.false) store-own.ensures.queues_if }
