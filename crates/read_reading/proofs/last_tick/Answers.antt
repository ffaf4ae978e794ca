-- `last_tick` meets its contract. Assumes nothing.
use Rattle.read_reading.proofs.last_tick.Goals as goal

pub returns-then-spans : goal.returns-then-spans
returns-then-spans c = rw c.if-spans.true c.to_line.ensures

pub returns-else-spans : goal.returns-else-spans
returns-else-spans c = rw c.if-spans.false
