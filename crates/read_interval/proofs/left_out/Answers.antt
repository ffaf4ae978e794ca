-- `left_out` meets its contract. Assumes nothing.
use borrow.Author.Tests.{eq-eqb, ne_eqb}
use Rattle.read_interval.proofs.left_out.Goals as goal

pub returns-then-b-round : goal.returns-then-b-round
returns-then-b-round c = rw (eq-eqb c.args.b c.args.round c.if-b-round.true)

pub returns-else-b-round : goal.returns-else-b-round
returns-else-b-round c = rw (ne_eqb c.args.b c.args.round c.if-b-round.false)
