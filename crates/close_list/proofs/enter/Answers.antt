-- `enter` meets its contract. Assumes nothing.
use Rattle.close_list.proofs.Queueing.{enters_one}
use Rattle.close_list.proofs.enter.Goals as goal

pub returns : goal.returns
returns c = enters_one _ _ _ c.requires
