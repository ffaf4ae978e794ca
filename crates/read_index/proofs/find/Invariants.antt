-- `find` meets its contract. The invariant: the names from some number on are searched, and `link` leads to the last of the others in the slot.
-- Assumes nothing.
use Rattle.read_names.specs.Spellings.{spelling_at}
use Rattle.read_index.specs.Index.{names_in}
use Rattle.read_index.proofs.Looking.{Looked}
use Rattle.read_index.proofs.find.Given as goal

abbrev pub invariant-loop-link : goal.invariant-loop-link
invariant-loop-link l = Looked (names_in l.s l.names) (spelling_at l.r l.at) l.signal l.link

abbrev pub decreases-loop-link : goal.decreases-loop-link
decreases-loop-link l = l.link
