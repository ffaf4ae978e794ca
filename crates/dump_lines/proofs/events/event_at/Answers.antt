-- `event_at` meets its contract. Assumes nothing.
use native.Mathlib.Omega.{arith}
use mathlib.Core.Path.{sym, ◌∙◌}
use Rattle.dump_lines.proofs.EventAnswers.{asked_more, event_asked, event_time, event_sign}
use Rattle.dump_lines.proofs.events.event_at.Goals as goal

pub sign_line-requires : goal.sign_line-requires
sign_line-requires c =
    let h = asked_more _ _ _ (sym c.sign_asked.ensures ∙ c.if-sign_asked.true) in
    (omega arith, omega arith, omega arith)

pub returns-then-sign_asked : goal.returns-then-sign_asked
returns-then-sign_asked c = c.sign_line.ensures ∙ event_asked _ _ _ _ _ _ (sym c.sign_asked.ensures ∙ c.if-sign_asked.true)

pub returns-then-starts_at : goal.returns-then-starts_at
returns-then-starts_at c =
    c.time_line.ensures ∙ event_time _ _ _ _ _ _ (sym c.sign_asked.ensures ∙ c.if-sign_asked.false) (sym c.starts_at.ensures ∙ c.if-starts_at.true)

pub returns : goal.returns
returns c =
    c.sign_line-2.ensures ∙ event_sign _ _ _ _ _ _ (sym c.sign_asked.ensures ∙ c.if-sign_asked.false) (sym c.starts_at.ensures ∙ c.if-starts_at.false)
