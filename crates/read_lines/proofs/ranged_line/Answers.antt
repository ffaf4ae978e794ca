-- `ranged_line` meets its contract. Assumes nothing.
use mathlib.Core.Path.{sym, ◌∙◌}
use Rattle.read_lines.proofs.ValueFirst.{keyed_is, ranged_keyed, ranged_unkeyed}
use Rattle.read_lines.proofs.ranged_line.Goals as goal

pub ranged_value-requires : goal.ranged_value-requires
ranged_value-requires g c = (keyed_is _ _ _ (sym c.keyed.ensures ∙ c.if-keyed.true)).0

pub returns-then-keyed : goal.returns-then-keyed
returns-then-keyed g c = c.ranged_value.ensures ∙ sym (ranged_keyed _ _ _ _ _ _ _ (sym c.keyed.ensures ∙ c.if-keyed.true))

pub returns-else-keyed : goal.returns-else-keyed
returns-else-keyed g c = sym (ranged_unkeyed _ _ _ _ _ _ _ (sym c.keyed.ensures ∙ c.if-keyed.false))
