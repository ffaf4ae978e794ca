-- `repeat` meets its contract. The invariant: the bytes in use lie in the buffer. Assumes nothing.
use Rattle.run_cases.proofs.Places.{counted}
use Rattle.run_cases.proofs.repeat.Goals as goal

pub returns : goal.returns
returns c = counted _ _ c.loop.invariant
