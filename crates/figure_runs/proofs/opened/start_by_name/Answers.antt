-- `start_by_name` meets its contract. Assumes nothing.
use Rattle.figure_runs.proofs.Starting.{few_records, fresh_records}
use Rattle.figure_runs.proofs.opened.start_by_name.Goals as goal

pub start_records-requires : goal.start_records-requires
start_records-requires c = few_records c.args.s.now c.args.places.now c.signals_in_order.ensures c.requires.1 c.requires.2

pub returns : goal.returns
returns c = fresh_records c.args.s.now c.args.places.now c.signals_in_order.ensures c.requires.2 c.start_records.ensures
