-- `append` meets its contract. The invariant: the bytes in use lie in the buffer. Assumes nothing.
use native.Mathlib.Omega.{arith}
use lib.ListN.{length-set}
use Rattle.run_cases.proofs.Places.{counted}
use Rattle.run_cases.proofs.append.Goals as goal

pub returns-then-out-n : goal.returns-then-out-n
returns-then-out-n c = counted _ _ c.loop-p.invariant

pub loop-p-preserved : goal.loop-p-preserved
loop-p-preserved c = simp length-set (omega arith)

pub returns : goal.returns
returns c = counted _ _ c.loop-p.invariant
