-- `work_round` meets its contract. The invariant: the words of ticks before q are done. Assumes nothing.
use native.Mathlib.Omega.{arith}
use mathlib.Core.Path.{◌≡◌}
use Rattle.close_word.proofs.Working.{works_workable}
use Rattle.close_table.proofs.Turning.{columns_none, columns_more}
use Rattle.close_table.proofs.rounds.work_round.Goals as goal

pub loop-q-init : goal.loop-q-init
loop-q-init c = columns_none _ _ _ _ _ _

pub work_column-requires : goal.work_column-requires
work_column-requires c = record { workable = works_workable _ _ _ _ _ c.requires c.loop-q.invariant; q_lt_n = omega arith }

pub loop-q-preserved : goal.loop-q-preserved
loop-q-preserved c = columns_more _ _ _ _ _ c.loop-q.invariant c.work_column.ensures

pub shape_of-marks : goal.shape_of-marks
shape_of-marks c =
    let k = c.requires.coded in
    (c.loop-q.invariant.each k.program k.codes).infers.size

pub returns : goal.returns
returns c =
    let all : c.loop-q.q ≡ c.args.n = omega arith in
    rw all at c.loop-q.invariant
