-- `close_linked` meets its contract. Assumes nothing.
use native.Mathlib.Omega.{arith}
use Rattle.close_list.proofs.Queueing.{roomy_as}
use Rattle.close_list.proofs.Workable.{queueable}
use Rattle.close_table.proofs.rounds.close_linked.Goals as goal

pub start-requires : goal.start-requires
start-requires c =
    let o = c.requires in
    record { queueable = queueable o; has_rows = o.sized.long }

pub work_off-requires : goal.work_off-requires
work_off-requires c =
    let o = c.requires in
    record { workable = record { coded = o.coded; linked = o.linked; roomy = roomy_as (omega arith) o.roomy; sized = o.sized; inside = o.inside }; settled_off_list = c.start.ensures _ }
