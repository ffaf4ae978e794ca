-- `queue_resting` meets its contract. Assumes nothing.
use Rattle.close_parents.proofs.Linking.{ended}
use Rattle.close_list.proofs.Queueing.{roomy_as, touched}
use Rattle.close_list.proofs.queue_resting.Goals as goal

pub enter_own-requires : goal.enter_own-requires
enter_own-requires c =
    let o = c.requires in
    record { coded = o.queueable.coded; x_lt_count = o.x_lt_count; list_fits = o.queueable.roomy }

pub queue_parents-requires : goal.queue_parents-requires
queue_parents-requires c =
    let enter-own = c.enter_own in
    let o = c.requires in
    record { x_lt_count = o.x_lt_count; ended = ended o.queueable.linked; list_fits = roomy_as enter-own.ensures.keeps.size o.queueable.roomy }

pub returns : goal.returns
returns c =
    let enter-own = c.enter_own in
    let queue-parents = c.queue_parents in
    let o = c.requires in
    touched _ _ _ _ _ _ _ _ _ _ o.x_lt_count.0 o.queueable.linked enter-own.ensures queue-parents.ensures
