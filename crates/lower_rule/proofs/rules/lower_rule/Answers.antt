-- `lower_rule` meets its contract. Assumes nothing.
use Rattle.lower_rule.proofs.InTurn.{one_full, one_then}
use Rattle.lower_rule.proofs.rules.lower_rule.Goals as goal

pub returns-in_err-lowered : goal.returns-in_err-lowered
returns-in_err-lowered c = rw c.from_residual.ensures (one_full _ _ _ _ _ _ c.in_err-lowered.ensures)

pub returns : goal.returns
returns c = one_then _ _ _ _ _ _ _ c.in_ok-lowered.ensures
