-- `rank_of` meets its contract: one case for each kind of node. Assumes nothing.
use Rattle.write_formula.proofs.Ranks.{level_rank, ranked}
use Rattle.write_formula.proofs.rank_of.Goals as goal

pub returns-in-Name : goal.returns-in-Name
returns-in-Name c = λ f. ranked f c.in-Name.is

pub returns-in-Deny : goal.returns-in-Deny
returns-in-Deny c = λ f. ranked f c.in-Deny.is

pub returns-in-Pair : goal.returns-in-Pair
returns-in-Pair c = λ f. level_rank f c.in-Pair.is c.rank_level.ensures

pub returns-in-Time : goal.returns-in-Time
returns-in-Time c = λ f. ranked f c.in-Time.is

pub returns-in-Keep : goal.returns-in-Keep
returns-in-Keep c = λ f. ranked f c.in-Keep.is
