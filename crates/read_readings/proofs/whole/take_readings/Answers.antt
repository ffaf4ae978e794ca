-- `take_readings` meets its contract. Assumes nothing.
use mathlib.Core.Path.{◌≡◌, refl}
use borrow.Author.Rules.{rules}
use Rattle.std.specs.Prelude.{Err}
use Rattle.read_readings.specs.TakeReadings.ReadingsTaken.{taken, kept}
use Rattle.read_readings.proofs.Outcomes.{not_noted, when_noted}
use Rattle.read_readings.proofs.Turns.{readings_are, readings_off}
use Rattle.read_readings.proofs.Bounds.{entries_room}
use Rattle.read_readings.proofs.whole.take_readings.Goals as goal

pub returns-in_err-count : goal.returns-in_err-count
returns-in_err-count c =
    let refused : c.from_residual.result ≡ Err c.in_err-count.field-0.0 = search rules in
    rw refused (kept _ (readings_off _ _ _ (not_noted c.in_err-count.ensures)) refl)

pub put_noted-requires : goal.put_noted-requires
put_noted-requires c =
    let asked = c.requires in
    let w = when_noted c.in_ok-count.ensures in
    (w.few, entries_room _ c.args.names.now _ _ _ _ asked.some asked.covered asked.room w.all)

pub returns : goal.returns
returns c = taken _ _ (readings_are _ _ _ (when_noted c.in_ok-count.ensures).all) c.put_noted.ensures
