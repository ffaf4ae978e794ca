-- `sign_at` meets its contract. Assumes nothing.
use Rattle.table_marks.specs.declared.Value.TheVariants.{Unsettled, True, False, Contradiction}
use Rattle.list_signals.proofs.Signs.{sign_is}
use Rattle.list_signals.proofs.sign_at.Goals as goal

pub returns-in-Unsettled : goal.returns-in-Unsettled
returns-in-Unsettled c = sign_is c.value_at-v.ensures Unsettled c.in-Unsettled.is

pub returns-in-True : goal.returns-in-True
returns-in-True c = sign_is c.value_at-v.ensures True c.in-True.is

pub returns-in-False : goal.returns-in-False
returns-in-False c = sign_is c.value_at-v.ensures False c.in-False.is

pub returns-in-Contradiction : goal.returns-in-Contradiction
returns-in-Contradiction c = sign_is c.value_at-v.ensures Contradiction c.in-Contradiction.is
