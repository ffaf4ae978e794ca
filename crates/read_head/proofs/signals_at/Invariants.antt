-- `signals_at` meets its contract. The invariant: what is left to read after the first `i` names of the index is what is to be read. Assumes nothing.
use Rattle.read_head.proofs.NamesPut.{ReadTo}
use Rattle.read_head.proofs.signals_at.Given as goal

abbrev pub invariant-loop-i : goal.invariant-loop-i
invariant-loop-i l = ReadTo l.s l.names l.n l.at l.i l.p
