-- `mikhakun_caption` meets its contract. Assumes nothing.
use mathlib.Core.Path.{ap, ◌∙◌}
use Rattle.c_api.specs.Leaves.{left, leaves, part_values}
use Rattle.c_api.proofs.mikhakun_caption.Goals as goal

pub returns-in-Ok : goal.returns-in-Ok
returns-in-Ok c = ap (left 0 c.args.place.now) c.tell_part.ensures ∙ ap (leaves part_values _ _) c.in-Ok.ensures

pub returns-in-Err : goal.returns-in-Err
returns-in-Err c = rw (c.tell_refusal.ensures.0, c.tell_refusal.ensures.1) (ap (leaves part_values _ _) c.in-Err.ensures)
