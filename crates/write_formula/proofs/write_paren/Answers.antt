-- `write_paren` meets its contract. Assumes nothing.
use Rattle.write_bytes.proofs.Writing.{like, nothing, counted_like}
use mathlib.Core.Path.{ap}
use Rattle.write_formula.specs.PartTexts.{paren_text}
use Rattle.write_formula.proofs.write_paren.Goals as goal

pub push-requires : goal.push-requires
push-requires c = counted_like c.requires (ap (λ b. paren_text b c.args.paren) c.if-needed.true)

pub returns-then-needed : goal.returns-then-needed
returns-then-needed c =
    like (ap (λ b. paren_text b c.args.paren) c.if-needed.true) c.push.ensures

pub returns-else-needed : goal.returns-else-needed
returns-else-needed c = like (ap (λ b. paren_text b c.args.paren) c.if-needed.false) nothing
