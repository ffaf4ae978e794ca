-- `close_with_tops` meets its contract. Assumes nothing.
use Rattle.close_table.proofs.MarkTops.{tops_there, tops_closable, tops_then_close}
use Rattle.close_table.proofs.tops.close_with_tops.Goals as goal

pub mark_tops-requires : goal.mark_tops-requires
mark_tops-requires c =
    let w = tops_there _ _ c.args.tops.now _ c.requires.closable.sized c.requires.k_in_bounds in
    record { k_in_bounds = w.0; by_index = w.1 }

pub close-requires : goal.close-requires
close-requires c =
    let mark-tops = c.mark_tops in
    tops_closable _ _ _ _ mark-tops.ensures c.requires.closable

pub returns : goal.returns
returns c =
    let mark-tops = c.mark_tops in
    let close = c.close in
    tops_then_close _ _ _ _ _ _ _ _ _ mark-tops.ensures close.ensures
