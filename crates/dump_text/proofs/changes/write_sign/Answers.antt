-- `write_sign` meets its contract. Assumes nothing.
use Rattle.spec_dump.specs.DumpTexts.{event_text}
use Rattle.dump_text.proofs.changes.write_sign.Goals as goal

pub push_text-requires : goal.push_text-requires
unfolding event_text
push_text-requires c = c.requires.1

pub returns : goal.returns
unfolding event_text
returns c = c.push_text.ensures
