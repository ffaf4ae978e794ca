-- `start` meets its contract. The invariant: what rests on a mark in a word before q is on the list. Assumes nothing.
use mathlib.Core.Path.{◌≡◌}
use native.Mathlib.Omega.{arith}
use Rattle.close_list.proofs.Workable.{queueable_as}
use Rattle.close_list.proofs.Starting.{starts_none, starts_column, starts_done}
use Rattle.close_list.proofs.start.Goals as goal

pub loop-q-init : goal.loop-q-init
loop-q-init c = starts_none _ _ _ _ _ _ (λ x p z. omega (arith, z.1))

pub start_column-requires : goal.start_column-requires
start_column-requires c =
    let o = c.requires in
    record { queueable = queueable_as c.loop-q.invariant.keeps.size o.queueable; q_lt_n = (omega arith, o.has_rows) }

pub loop-q-preserved : goal.loop-q-preserved
loop-q-preserved c = starts_column _ _ _ _ _ _ _ _ c.loop-q.invariant c.start_column.ensures

pub returns : goal.returns
returns c =
    let all : c.loop-q.q ≡ c.args.n = omega arith in
    starts_done _ _ _ _ _ _ c.requires.queueable.coded (rw all at c.loop-q.invariant)
