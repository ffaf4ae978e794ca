-- `close_at` meets its contract. Assumes nothing.
use mathlib.Core.Path.{◌∙◌}
use Rattle.read_interval.proofs.Intervals.{one_of_lem_lem, none_of, close_is, close_not}
use Rattle.read_interval.proofs.close_at.Goals as goal

pub returns-in-93 : goal.returns-in-93
returns-in-93 c = c.offsets_of.ensures ∙ close_is _ _ _ _ _ _ _ c.byte_at-c.ensures (one_of_lem_lem _ _ _ c.in-93.is)

pub returns-in_default : goal.returns-in_default
returns-in_default c = close_not _ _ _ _ _ _ _ c.byte_at-c.ensures (none_of _ _ _ c.in_default.in_default-own.rest.1)
