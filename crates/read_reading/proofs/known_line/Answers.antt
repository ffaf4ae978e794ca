-- `known_line` meets its contract. Assumes nothing.
use native.Mathlib.Omega.{arith}
use mathlib.Core.Path.{sym, ◌∙◌}
use Rattle.read_lines.proofs.ValueFirst.{lf_inside, keyed_is}
use Rattle.read_reading.proofs.Lines.{known_found}
use Rattle.read_reading.proofs.known_line.Goals as goal

pub find-found-requires : goal.find-found-requires
find-found-requires c = (c.requires.0, (keyed_is _ _ _ (sym c.keyed.ensures ∙ c.if-keyed.true)).0)

pub overflow_add-result : goal.overflow_add-result
overflow_add-result c = omega (arith, lf_inside _ _ (sym c.lf_at.ensures ∙ c.if-lf_at.true))

pub returns-then-lf_at : goal.returns-then-lf_at
returns-then-lf_at c =
    known_found _ c.args.names.now _ _ c.requires.0 (sym c.keyed.ensures ∙ c.if-keyed.true) c.find-found.ensures c.if-found-names.true (sym c.lf_at.ensures ∙ c.if-lf_at.true)
