-- `move_opened` meets its contract. Assumes nothing.
use native.Mathlib.Omega.{arith}
use borrow.Author.Rules.{rules}
use mathlib.Core.Path.{◌≡◌}
use Rattle.std.specs.Prelude.{Err}
use Rattle.read_index.proofs.Places.{places_part_lem}
use Rattle.read_readings.proofs.Outcomes.{when_noted, not_noted}
use Rattle.op_moves.proofs.Outcomes.{can_note, noted_writable, as_moved, readings_refused}
use Rattle.op_moves.proofs.moves.move_opened.Goals as goal

pub note_entries-requires : goal.note_entries-requires
note_entries-requires c =
    can_note c.requires.0 c.requires.1 _ (omega arith)

pub returns-in_err-count : goal.returns-in_err-count
returns-in_err-count c =
    let refused : c.from_residual.result ≡ Err c.in_err-count.field-0.0 = search rules in
    rw refused (readings_refused c.requires.0 _ (not_noted c.in_err-count.ensures))

pub write_noted-requires : goal.write_noted-requires
write_noted-requires c =
    noted_writable c.requires.0 _ (when_noted c.in_ok-count.ensures) (places_part_lem c.args.names.now)

pub returns : goal.returns
returns c =
    as_moved c.requires.0 _ (when_noted c.in_ok-count.ensures) (places_part_lem c.args.names.now) c.write_noted.ensures
