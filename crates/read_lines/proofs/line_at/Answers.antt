-- `line_at` meets its contract. Assumes nothing.
use mathlib.Core.Path.{sym, ◌∙◌}
use Rattle.read_lines.proofs.KeyedLines.{line_is, line_open}
use Rattle.read_lines.proofs.ValueFirst.{keyed_is, keyed_not}
use Rattle.read_lines.proofs.line_at.Goals as goal
use Rattle.read_lines.proofs.line_at.Goals.{then-keyed+else-e-s, else-keyed}

pub returns-then-e-s : goal.returns-then-e-s
returns-then-e-s g c =
    line_is _ _ _ _ c.line_end-e.result (keyed_is _ _ _ (sym c.keyed.ensures ∙ c.if-keyed.true)).1 c.line_end-e.ensures c.if-e-s.true

pub returns : goal.returns
returns g c = elim c.if-keyed.branch [
  | then-keyed+else-e-s w ↦ line_open _ _ _ _ w.line_end-e.result (keyed_is _ _ _ (sym c.keyed.ensures ∙ w.if-keyed.true)).1 w.line_end-e.ensures w.if-e-s.false
  | else-keyed w ↦ sym (keyed_not _ _ _ _ (sym c.keyed.ensures ∙ w.if-keyed.false))
]
