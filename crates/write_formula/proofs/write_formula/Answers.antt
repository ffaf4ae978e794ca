-- `write_formula` meets its contract. Assumes nothing.
use mathlib.Core.Path.{refl}
use Rattle.write_bytes.proofs.Writing.{like, counted_like}
use Rattle.write_formula.proofs.Parts.{printed_parts}
use Rattle.write_formula.proofs.write_formula.Goals as goal

pub write_part-requires : goal.write_part-requires
write_part-requires c =
    record { named_node = c.requires.named_node; counted = counted_like c.requires.counted (printed_parts _ _ _ refl) }

pub returns : goal.returns
returns c = like (printed_parts _ _ _ refl) c.write_part.ensures
