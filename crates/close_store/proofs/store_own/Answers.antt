-- `store_own` meets its contract. Assumes nothing.
use native.Mathlib.Omega.{arith}
use mathlib.Core.Path.{ap}
use Rattle.table_words.specs.WordTicks.{one_if}
use Rattle.close_store.proofs.Storing.{enters_if_not, enters_if}
use Rattle.close_store.proofs.store_own.Goals as goal

pub returns-then-j : goal.returns-then-j
returns-then-j c =
    let queue-parents = c.queue_parents in
    let add_words = c.add_words-j in
    record { joins = add_words.ensures.joins; reads = add_words.ensures.reads; queues_if = enters_if _ _ (rw c.if-j.true (omega arith)) queue-parents.ensures }

pub returns-else-j : goal.returns-else-j
returns-else-j c =
    let add_words = c.add_words-j in
    record { joins = add_words.ensures.joins; reads = add_words.ensures.reads; queues_if = enters_if_not _ _ _ (ap one_if c.if-j.false) }
