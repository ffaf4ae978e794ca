-- `spelling_over` meets its contract. Assumes nothing.
use mathlib.Core.Path.{ap, ◌∙◌}
use mathlib.Core.Bool.{not}
use Rattle.read_bytes.specs.Bytes.{name_byte}
use Rattle.read_names.proofs.spelling_over.Goals as goal

pub returns : goal.returns
returns c = ap not (c.name_byte.ensures ∙ ap name_byte c.byte_at-b.ensures)
