-- `keyed` meets its contract. Assumes nothing.
use native.Mathlib.Omega.{arith}
use mathlib.Core.Path.{◌∙◌}
use Rattle.read_lines.proofs.ValueFirst.{keyed_by, keyed_past}
use Rattle.read_lines.proofs.keyed.Goals as goal

pub returns-then-v-s : goal.returns-then-v-s
returns-then-v-s c = c.stands_at.ensures ∙ keyed_by _ _ _ (omega arith)

pub returns-else-v-s : goal.returns-else-v-s
returns-else-v-s c = keyed_past _ _ _ c.if-v-s.false
