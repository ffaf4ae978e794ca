-- `head` meets its contract. Assumes nothing.
use native.Mathlib.Omega.{arith}
use mathlib.Core.Path.{◌≡◌, sym}
use borrow.Author.Rules.{rules}
use Rattle.std.specs.Prelude.{Err}
use Rattle.read_lines.proofs.KeyedLines.{ranged_past}
use Rattle.read_head.proofs.Signals.{signal_lines}
use Rattle.read_head.proofs.NamesPut.{none_put}
use Rattle.read_head.proofs.Heads.{refused_window, refused_signals, refused_signal, refused_rules, head_is}
use Rattle.read_head.proofs.head.Goals as goal

pub returns-in_err-window : goal.returns-in_err-window
returns-in_err-window c =
    let refused : c.from_residual.result ≡ Err c.in_err-window.field-0.0 = search rules in
    rw refused (refused_window _ (sym c.in_err-window.ensures))

pub number_line-requires-2 : goal.number_line-requires-2
number_line-requires-2 c = (ranged_past _ _ _ _ _ _ _ (sym c.in_ok-window.ensures)).0.inside

pub returns-in_err-signals : goal.returns-in_err-signals
returns-in_err-signals c =
    let refused : c.from_residual-in_err-signals.result ≡ Err c.in_err-signals.field-0.0 = search rules in
    rw refused (refused_signals _ (sym c.in_ok-window.ensures) (sym c.in_err-signals.ensures))

pub signals_at-requires : goal.signals_at-requires
signals_at-requires c =
    let w = ranged_past _ _ _ _ _ _ _ (sym c.in_ok-signals.ensures) in
    (none_put _ c.requires.0, omega (arith, w.2), w.0.inside, c.requires.1)

pub returns-in_err-u : goal.returns-in_err-u
returns-in_err-u c =
    let refused : c.from_residual-in_err-u.result ≡ Err c.in_err-u.field-0.0 = search rules in
    rw refused (refused_signal _ (sym c.in_ok-window.ensures) (sym c.in_ok-signals.ensures) c.in_err-u.ensures)

pub number_line-requires-3 : goal.number_line-requires-3
number_line-requires-3 c =
    (signal_lines _ _ _ _ (ranged_past _ _ _ _ _ _ _ (sym c.in_ok-signals.ensures)).0.inside tt c.in_ok-u.ensures.0).past.inside

pub returns-in_err-rules : goal.returns-in_err-rules
returns-in_err-rules c =
    let refused : c.from_residual-in_err-rules.result ≡ Err c.in_err-rules.field-0.0 = search rules in
    rw refused (refused_rules _ (sym c.in_ok-window.ensures) (sym c.in_ok-signals.ensures) c.in_ok-u.ensures.0 (sym c.in_err-rules.ensures))

pub returns : goal.returns
returns c =
    let a = sym c.in_ok-window.ensures in
    let b = sym c.in_ok-signals.ensures in
    let d = c.in_ok-u.ensures in
    let e = sym c.in_ok-rules.ensures in
    let w = ranged_past _ _ _ _ _ _ _ a in
    let n = ranged_past _ _ _ _ _ _ _ b in
    let m = ranged_past _ _ _ _ _ _ _ e in
    record {
      lines = head_is _ a b d.0 e;
      sizes = record { window_low = w.1; window_high = w.2; signals_low = n.1; signals_high = n.2; rules_high = m.2 };
      put = d.1;
    }
