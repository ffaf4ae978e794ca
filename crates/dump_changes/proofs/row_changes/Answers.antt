-- `row_changes` meets its contract: the first word, and a later one with the word before it. Assumes nothing.
use native.Mathlib.Omega.{arith}
use Rattle.dump_changes.proofs.Signs.{changes_first, changes_later}
use Rattle.dump_changes.proofs.row_changes.Goals as goal

pub returns-then-q-eq0 : goal.returns-then-q-eq0
returns-then-q-eq0 c = changes_first _ _ _ _ _ _ c.word_at-yes.ensures c.word_at.ensures c.if-q-eq0.true

pub returns : goal.returns
returns c =
    changes_later _ _ _ _ _ _ c.word_at-yes.ensures c.word_at.ensures _ _ _ c.word_at-yes_before.ensures c.word_at-2.ensures (omega arith) (omega arith) (omega arith)
