-- `link_rows` meets its contract. The invariant: the rows before r are linked. Assumes nothing.
use native.Mathlib.Omega.{arith}
use Rattle.close_parents.proofs.Linking.{linked_none}
use Rattle.close_parents.proofs.link_rows.Goals as goal

pub loop-r-init : goal.loop-r-init
loop-r-init c = let o = c.requires in linked_none _ _ _ _ o.count_in_bounds.0 o.count_in_bounds.1 o.count_in_bounds.2

pub link_row-requires : goal.link_row-requires
link_row-requires c =
    let o = c.requires in
    record { coded = (o.coded.0, omega arith, o.coded.1); linked_to = c.loop-r.invariant }
