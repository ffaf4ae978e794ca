-- `link_rows` meets its contract. The invariant: the rows before r are linked. Assumes nothing.
use Rattle.close_parents.specs.Links.{LinkedTo}
use Rattle.close_parents.proofs.link_rows.Given as goal

abbrev pub invariant-loop-r : goal.invariant-loop-r
invariant-loop-r l = LinkedTo l.count l.rows l.heads l.nexts l.r
