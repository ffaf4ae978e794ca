-- `var_lines` meets its contract. The invariant: what is left to read after the first `x` lines is what is to be read. Assumes nothing.
use Rattle.read_index.specs.Index.{name_count, names_in}
use Rattle.dump_lines.proofs.VarTurns.{VarsTo}
use Rattle.dump_lines.proofs.head.var_lines.Given as goal

abbrev pub invariant-loop-x : goal.invariant-loop-x
invariant-loop-x l = VarsTo (names_in l.s l.names) l.d (name_count l.names) l.p l.x l.at
