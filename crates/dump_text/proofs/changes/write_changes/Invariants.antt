-- `write_changes` meets its contract. The invariant: the changes from word `q` on are left to be written. Assumes nothing.
use Rattle.write_bytes.proofs.Leaves.{Leaves}
use Rattle.dump_text.specs.TableTexts.{later_text}
use Rattle.dump_text.proofs.changes.write_changes.Given as goal

abbrev pub invariant-loop-q : goal.invariant-loop-q
invariant-loop-q l = Leaves (later_text l.k l.window l.n l.table 0) l.initial.w (later_text l.k l.window l.n l.table l.q) l.w
