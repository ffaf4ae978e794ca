-- `shown_text` meets its contract. Assumes nothing.
use Rattle.read_captions.proofs.ShownParts.{part_in, shows_text, text_is}
use Rattle.read_captions.proofs.shown_text.Goals as goal

pub part_of-requires : goal.part_of-requires
part_of-requires c = part_in c.requires.0 c.requires.1 c.shown_part-part.ensures

pub returns : goal.returns
returns c = text_is c.requires.0 c.requires.1 c.shown_part-part.ensures (shows_text c.part_of.ensures)
