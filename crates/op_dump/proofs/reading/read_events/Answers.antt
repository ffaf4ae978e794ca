-- `read_events` meets its contract. Assumes nothing.
use borrow.Author.Rules.{rules}
use mathlib.Core.Path.{◌≡◌, refl}
use Rattle.std.specs.Prelude.{Err}
use Rattle.op_dump.proofs.Taken.{not_taken, too_many, all_read}
use Rattle.op_dump.proofs.reading.read_events.Goals as goal

pub take_events-requires : goal.take_events-requires
take_events-requires c =
    let h = c.requires in (h.0, h.1, h.2, h.3, refl)

pub returns-in_err-long : goal.returns-in_err-long
returns-in_err-long c =
    let refused : c.from_residual.result ≡ Err c.in_err-long.field-0.0 = search rules in
    rw refused (not_taken c.in_err-long.ensures _)

pub returns-then-out-long : goal.returns-then-out-long
returns-then-out-long c = too_many c.in_ok-long.ensures c.if-out-long.true

pub take_events-requires-2 : goal.take_events-requires-2
take_events-requires-2 c =
    let h = c.requires in (h.0, h.1, h.2, h.3, refl)

pub returns : goal.returns
returns c = all_read c.in_ok-long.ensures c.if-out-long.false c.take_events-2.ensures
