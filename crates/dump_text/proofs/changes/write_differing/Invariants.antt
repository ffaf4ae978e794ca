-- `write_differing` meets its contract. The invariant: the changes of the signals from `x` on are left to be written. Assumes nothing.
use Rattle.write_bytes.proofs.Leaves.{Leaves}
use Rattle.dump_text.specs.TableTexts.{changes_text}
use Rattle.dump_text.proofs.changes.write_differing.Given as goal

abbrev pub invariant-loop-x : goal.invariant-loop-x
invariant-loop-x l = Leaves (changes_text l.k l.n l.table l.tick 0) l.initial.w (changes_text l.k l.n l.table l.tick l.x) l.w
