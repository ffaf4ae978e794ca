-- `run_length` meets its contract. Assumes nothing.
use mathlib.Core.Path.{sym}
use native.Mathlib.Omega.{arith}
use Rattle.read_names.proofs.Names.{names_many}
use Rattle.op_moves.proofs.RunTexts.{name_short}
use Rattle.op_moves.proofs.Measured.{run_long, run_singles_long}
use Rattle.op_moves.proofs.lengths.run_length.Goals as goal

pub name_length-name-requires : goal.name_length-name-requires
name_length-name-requires c = simp names_many at c.requires.0.signal

pub entry_length-requires : goal.entry_length-requires
entry_length-requires c =
    (rw c.name_length-name.ensures (name_short _ c.requires.0), omega (arith, c.requires.0.start), omega (arith, c.requires.0.ticks))

pub singles_length-requires : goal.singles_length-requires
singles_length-requires c =
    (rw c.name_length-name.ensures (name_short _ c.requires.0), c.requires.0.ticks, c.requires.1)

pub returns-then-spans : goal.returns-then-spans
returns-then-spans c = run_long _ _ _ _ c.if-spans.true (c.entry_length.ensures.1 _ _ _ (sym c.name_length-name.ensures))

pub returns-else-spans : goal.returns-else-spans
returns-else-spans c = run_singles_long _ _ _ _ c.if-spans.false (c.singles_length.ensures _ _ _ (sym c.name_length-name.ensures))
