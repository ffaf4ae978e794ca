-- `read_opened` meets its contract. Assumes nothing.
use borrow.Author.Rules.{rules}
use mathlib.Core.Path.{◌≡◌, sym}
use Rattle.std.specs.Prelude.{Err}
use Rattle.read_lines.proofs.Stays.{Any, stays_got}
use Rattle.dump_lines.proofs.HeadPlaces.{head_stays}
use Rattle.op_dump.proofs.Outcomes.{head_off, head_read}
use Rattle.op_dump.proofs.reading.read_opened.Goals as goal

pub returns-in_err-p : goal.returns-in_err-p
returns-in_err-p c =
    let refused : c.from_residual.result ≡ Err c.in_err-p.field-0.0 = search rules in
    rw refused (head_off _ c.args.names.now _ _ (sym c.in_err-p.ensures) _)

pub read_events-requires : goal.read_events-requires
read_events-requires c =
    let h = c.requires in (h.0, h.1, h.2, (stays_got Any _ (head_stays _ _) (sym c.in_ok-p.ensures)).1)

pub returns : goal.returns
returns c = head_read _ c.args.names.now _ _ (sym c.in_ok-p.ensures) c.read_events.ensures
