-- `time_line` meets its contract. Assumes nothing.
use borrow.Author.Rules.{rules}
use native.Mathlib.Omega.{arith}
use mathlib.Core.Path.{◌≡◌, sym, ap, ◌∙◌}
use Rattle.std.specs.Prelude.{Err}
use Rattle.read_bytes.proofs.Answers.{hand_on}
use Rattle.spec_dump.specs.DumpLines.{time_line}
use Rattle.dump_lines.specs.EventSays.{event_says}
use Rattle.dump_lines.proofs.EventAnswers.{time_is, time_past}
use Rattle.dump_lines.proofs.events.time_line.Goals as goal

pub returns-in_err-t : goal.returns-in_err-t
unfolding time_line
returns-in_err-t c =
    let refused : c.from_residual.result ≡ Err c.in_err-t.field-0.0 = search rules in
    ap event_says refused ∙ hand_on _ (sym c.in_err-t.ensures)

pub returns-then-u-t : goal.returns-then-u-t
returns-then-u-t c = time_is _ _ _ _ (sym c.in_ok-t.ensures) c.if-u-t.true

pub returns-else-u-t : goal.returns-else-u-t
returns-else-u-t c = time_past _ _ _ _ (sym c.in_ok-t.ensures) c.if-u-t.false
