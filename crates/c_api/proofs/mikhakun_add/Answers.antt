-- `mikhakun_add` meets its contract. Assumes nothing.
use mathlib.Core.Path.{ap}
use Rattle.open_sheet.specs.Results.{accepted, refused}
use Rattle.spec_operations.specs.Gain.{gain}
use Rattle.c_api.specs.Leaves.{left}
use Rattle.c_api.proofs.Written.{gain_written}
use Rattle.c_api.proofs.mikhakun_add.Goals as goal

pub returns-in-Ok : goal.returns-in-Ok
returns-in-Ok c = (accepted (gain _ _), c.in-Ok.ensures, ap (left 0 c.args.place.now) (gain_written c.in-Ok.added.new c.in-Ok.added.clash))

pub returns-in-Err : goal.returns-in-Err
returns-in-Err c = (refused _ _, c.in-Err.ensures, rw (c.tell_refusal.ensures.0, c.tell_refusal.ensures.1))
