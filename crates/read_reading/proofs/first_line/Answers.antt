-- `first_line` meets its contract. Assumes nothing.
use mathlib.Core.Path.{sym, ◌∙◌}
use Rattle.read_lines.proofs.ValueFirst.{keyed_is, ranged_keyed, ranged_unkeyed}
use Rattle.read_reading.proofs.first_line.Goals as goal

pub ranged_value-requires : goal.ranged_value-requires
ranged_value-requires c = (keyed_is _ _ _ (sym c.keyed.ensures ∙ c.if-keyed.true)).0

pub returns-then-keyed : goal.returns-then-keyed
returns-then-keyed c =
    rw c.if-spans.true (c.ranged_value.ensures ∙ sym (ranged_keyed _ _ _ _ _ _ _ (sym c.keyed.ensures ∙ c.if-keyed.true)))

pub ranged_value-requires-then-keyed-2 : goal.ranged_value-requires-then-keyed-2
ranged_value-requires-then-keyed-2 c = (keyed_is _ _ _ (sym c.keyed-else-spans.ensures ∙ c.if-keyed-2.true)).0

pub returns-then-keyed-2 : goal.returns-then-keyed-2
returns-then-keyed-2 c =
    rw c.if-spans.false (c.ranged_value-then-keyed-2.ensures ∙ sym (ranged_keyed _ _ _ _ _ _ _ (sym c.keyed-else-spans.ensures ∙ c.if-keyed-2.true)))

pub returns-else-keyed : goal.returns-else-keyed
returns-else-keyed c = rw c.if-spans.true (sym (ranged_unkeyed _ _ _ _ _ _ _ (sym c.keyed.ensures ∙ c.if-keyed.false)))

pub returns-else-keyed-2 : goal.returns-else-keyed-2
returns-else-keyed-2 c = rw c.if-spans.false (sym (ranged_unkeyed _ _ _ _ _ _ _ (sym c.keyed-else-spans.ensures ∙ c.if-keyed-2.false)))
