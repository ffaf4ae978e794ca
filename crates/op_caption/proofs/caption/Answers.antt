-- `caption` meets its contract: the part that `caption_part` tells is cut out of its text. Assumes nothing.
use mathlib.Core.Path.{refl}
use Rattle.op_caption.proofs.Outcomes.{inside, shows_part, shows_nothing}
use Rattle.op_caption.proofs.caption.Goals as goal

pub part_of-requires : goal.part_of-requires
part_of-requires c = inside c.args.sheet c.args.captions _ c.caption_part.ensures c.in-Ok.is

pub returns-in-Ok : goal.returns-in-Ok
returns-in-Ok c = shows_part c.args.sheet c.args.captions _ c.caption_part.ensures c.in-Ok.is c.part_of.ensures

pub returns-in-Err : goal.returns-in-Err
returns-in-Err c = shows_nothing c.args.sheet c.args.captions _ c.caption_part.ensures c.in-Err.is refl refl
