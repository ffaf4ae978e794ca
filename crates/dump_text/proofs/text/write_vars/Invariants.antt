-- `write_vars` meets its contract. The invariant: the signals from `x` on are left to be written. Assumes nothing.
use lib.ListN.{drop}
use Rattle.read_names.specs.Spellings.{names_at}
use Rattle.write_bytes.proofs.Leaves.{Leaves}
use Rattle.spec_dump.specs.DumpTexts.{vars_text}
use Rattle.dump_text.proofs.text.write_vars.Given as goal

abbrev pub invariant-loop-x : goal.invariant-loop-x
invariant-loop-x l = Leaves (vars_text 0 (names_at l.s l.places)) l.initial.w (vars_text l.x (names_at l.s (drop l.x l.places))) l.w
