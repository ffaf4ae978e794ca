-- `slot_at` meets its contract. The invariant: the spelling is read up to `i`, and `h` is mixed from its bytes before `i`. Assumes nothing.
use Rattle.read_index.proofs.Walking.{Walked}
use Rattle.read_index.proofs.slot_at.Given as goal

abbrev pub invariant-loop-i : goal.invariant-loop-i
invariant-loop-i l = Walked l.r l.at l.i l.h
