-- `close` meets its contract. Assumes nothing.
use native.Mathlib.Omega.{arith}
use Rattle.spec_limits.specs.Limits.{most_rows}
use Rattle.close_parents.proofs.Linking.{no_lists}
use Rattle.close_list.proofs.Workable.{with_lists}
use Rattle.close_table.proofs.rounds.close.Goals as goal

pub link_rows-requires : goal.link_rows-requires
link_rows-requires c =
    let o = c.requires in
    record { coded = (o.coded, o.roomy.most); count_in_bounds = (omega (arith, o.roomy.most), omega (arith, o.roomy.most), λ x l. no_lists most_rows x) }

pub close_linked-requires : goal.close_linked-requires
close_linked-requires c = with_lists c.link_rows.ensures c.requires
