-- `work_column` meets its contract. The invariant: the first i words of the list, up or down, are done. Assumes nothing.
use native.Mathlib.Omega.{arith}
use mathlib.Core.Path.{◌≡◌}
use Rattle.close_list.specs.Items.{per}
use Rattle.close_word.proofs.Working.{works_workable}
use Rattle.close_table.proofs.Turning.{turned_none, turned_more, turned_all, turn_below}
use Rattle.close_table.proofs.rounds.work_column.Goals as goal

pub overflow_add-stride : goal.overflow_add-stride
overflow_add-stride c = omega (arith, c.requires.workable.roomy.most)

pub loop-i-init : goal.loop-i-init
loop-i-init c = turned_none _ _ _ _ c.args.up _ _ _

pub work_word-requires : goal.work_word-requires
work_word-requires c =
    let a = c.args in
    let l = c.loop-i in
    record { workable = works_workable _ _ _ _ _ c.requires.workable l.invariant; q_lt_n = (c.requires.q_lt_n, omega (arith, c.turned-j.ensures, turn_below a.up (per a.on.now.count) l.i (omega arith))) }

pub loop-i-preserved : goal.loop-i-preserved
loop-i-preserved c = turned_more _ _ _ _ c.args.up _ _ _ (omega arith) c.turned-j.ensures c.loop-i.invariant c.work_word.ensures

pub shape_of-marks : goal.shape_of-marks
shape_of-marks c =
    let k = c.requires.workable.coded in
    (c.loop-i.invariant.each k.program k.codes).infers.size

pub returns : goal.returns
returns c =
    let all : c.loop-i.i ≡ per c.args.on.now.count = omega arith in
    turned_all _ _ _ _ c.args.up _ (rw all at c.loop-i.invariant)
