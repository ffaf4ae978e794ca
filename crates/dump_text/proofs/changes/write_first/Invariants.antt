-- `write_first` meets its contract. The invariant: the signs of the signals from `x` on are left to be written. Assumes nothing.
use Rattle.write_bytes.proofs.Leaves.{Leaves}
use Rattle.dump_text.specs.TableTexts.{first_text}
use Rattle.dump_text.proofs.changes.write_first.Given as goal

abbrev pub invariant-loop-x : goal.invariant-loop-x
invariant-loop-x l = Leaves (first_text l.k l.n l.table 0) l.initial.w (first_text l.k l.n l.table l.x) l.w
