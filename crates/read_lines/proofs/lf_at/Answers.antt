-- `lf_at` meets its contract. Assumes nothing.
use Rattle.read_lines.proofs.ValueFirst.{lf_read, lf_past}
use Rattle.read_lines.proofs.lf_at.Goals as goal

pub returns-then-at-s : goal.returns-then-at-s
returns-then-at-s c = lf_read _ _ c.if-at-s.true

pub returns-else-at-s : goal.returns-else-at-s
returns-else-at-s c = lf_past _ _ c.if-at-s.false
