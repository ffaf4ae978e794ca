-- `mark_true` meets its contract. The invariant: the words before q are done. Assumes nothing.
use native.Mathlib.Omega.{arith}
use mathlib.Core.Path.{◌≡◌}
use Rattle.close_rules.proofs.Decoding.{word_in_window}
use Rattle.close_table.proofs.MarkTops.{until_none, until_more, until_all}
use Rattle.close_table.proofs.tops.mark_true.Goals as goal

pub loop-q-init : goal.loop-q-init
loop-q-init c = until_none _ _ _ _

pub window_word-ticks-requires : goal.window_word-ticks-requires
window_word-ticks-requires c = word_in_window _ _ _ c.requires.0 (omega arith)

pub add_word-requires : goal.add_word-requires
add_word-requires c = (omega arith, omega (arith, c.requires.1, c.loop-q.invariant.size))

pub loop-q-preserved : goal.loop-q-preserved
loop-q-preserved c = until_more _ _ _ _ _ _ _ _ _ c.loop-q.invariant c.window_word-ticks.ensures c.add_word.ensures

pub returns : goal.returns
returns c =
    let all : c.loop-q.q ≡ c.args.n = omega arith in
    until_all _ _ _ _ _ c.requires.0 (rw all at c.loop-q.invariant)
