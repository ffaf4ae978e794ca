-- `put_text` meets its contract. Assumes nothing.
use native.Mathlib.Omega.{arith}
use Rattle.read_readings.proofs.Turns.{readings_are}
use Rattle.read_readings.proofs.Bounds.{entries_room}
use Rattle.figure_runs.proofs.Putting.{puts_these, taken_these}
use Rattle.figure_runs.proofs.runs.put_text.Goals as goal

pub put_noted-requires : goal.put_noted-requires
put_noted-requires c =
    let asked = c.requires in
    let noted = asked.1.all (omega (arith, c.if-notes-gt0.true)) in
    (omega arith, entries_room _ c.args.names.now _ _ _ _ asked.0.some asked.0.covered asked.0.room noted.1)

pub returns-then-notes-gt0 : goal.returns-then-notes-gt0
returns-then-notes-gt0 c =
    let noted = c.requires.1.all (omega (arith, c.if-notes-gt0.true)) in
    λ ms q e. puts_these e (readings_are _ _ _ noted.1) c.put_noted.ensures

pub returns-else-notes-gt0 : goal.returns-else-notes-gt0
returns-else-notes-gt0 c = λ ms q e. taken_these e c.take_readings.ensures
