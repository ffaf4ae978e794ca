-- `time_sign` meets its contract. Assumes nothing.
use mathlib.Core.Path.{sym, ap}
use Rattle.spec_grammar.specs.Grammar.{time_sign}
use Rattle.write_formula.proofs.time_sign.Goals as goal

pub returns-then-always : goal.returns-then-always
returns-then-always c = sym (ap time_sign c.if-always.true)

pub returns-else-always : goal.returns-else-always
returns-else-always c = sym (ap time_sign c.if-always.false)
