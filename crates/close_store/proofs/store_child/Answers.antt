-- `store_child` meets its contract. Assumes nothing.
use native.Mathlib.Omega.{arith}
use mathlib.Core.Path.{ap}
use Rattle.table_words.specs.WordTicks.{one_if}
use Rattle.close_store.proofs.Storing.{notes_still, notes_touched}
use Rattle.close_store.proofs.store_child.Goals as goal

pub returns-then-j : goal.returns-then-j
returns-then-j c =
    let queue-resting = c.queue_resting in
    let add_words = c.add_words-j in
    record { changed = one_if add_words.result.changed; joins = add_words.ensures.joins; notes = notes_touched _ _ _ _ _ _ _ _ (rw c.if-j.true (omega arith)) queue-resting.ensures }

pub returns-else-j : goal.returns-else-j
returns-else-j c =
    let add_words = c.add_words-j in
    record { changed = one_if add_words.result.changed; joins = add_words.ensures.joins; notes = notes_still _ _ _ _ _ _ _ (ap one_if c.if-j.false) }
