-- `next_line` meets its contract: the line's end lies in the cases. Assumes nothing.
use native.Mathlib.Omega.{arith}
use Rattle.run_cases.proofs.Places.{line_reach}
use Rattle.run_cases.proofs.next_line.Goals as goal

pub returns-then-e-cases : goal.returns-then-e-cases
returns-then-e-cases c = let w = line_reach _ _ _ c.requires c.line_end-e.ensures in (omega (arith, w.ahead), omega arith)

pub returns-else-e-cases : goal.returns-else-e-cases
returns-else-e-cases c = let w = line_reach _ _ _ c.requires c.line_end-e.ensures in (omega (arith, w.ahead), w.inside)
