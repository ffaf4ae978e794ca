-- `start_in_order` meets its contract. Assumes nothing.
use mathlib.Core.Path.{sym}
use lib.Seq.{length-take-le}
use Rattle.figure_runs.proofs.opened.start_in_order.Goals as goal

pub slice_bounds-start_by_name-end : goal.slice_bounds-start_by_name-end
slice_bounds-start_by_name-end c = sym (length-take-le _ _ c.requires.0.few)

pub start_by_name-requires : goal.start_by_name-requires
start_by_name-requires c = (record { inside = c.requires.0.inside; many = length-take-le _ _ c.requires.0.few }, c.requires.0.few, c.requires.1)
