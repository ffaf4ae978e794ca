-- `mikhakun_ask` meets its contract. Assumes nothing.
use mathlib.Core.Path.{ap}
use Rattle.table_marks.specs.Values.{value_says}
use Rattle.open_sheet.specs.Results.{accepted, refused}
use Rattle.c_api.specs.Leaves.{left}
use Rattle.c_api.proofs.mikhakun_ask.Goals as goal

pub returns-in-Ok : goal.returns-in-Ok
returns-in-Ok c = (accepted (value_says c.in-Ok.v), c.in-Ok.ensures, ap (left 0 c.args.place.now) c.number_of.ensures)

pub returns-in-Err : goal.returns-in-Err
returns-in-Err c = (refused _ _, c.in-Err.ensures, rw (c.tell_refusal.ensures.0, c.tell_refusal.ensures.1))
