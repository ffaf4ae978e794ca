-- `entry_at` meets its contract. Assumes nothing.
use native.Mathlib.Omega.{arith}
use mathlib.Core.Path.{◌≡◌, sym, ap, ◌∙◌}
use borrow.Author.Rules.{rules}
use Rattle.std.specs.Prelude.{Err}
use Rattle.read_lines.proofs.KeyedLines.{ranged_past}
use Rattle.read_reading.specs.OneEntry.{entry_says}
use Rattle.read_reading.proofs.Lines.{known_past, last_reach, refused_first, refused_last, refused_signal, refused_value, entry_is}
use Rattle.read_reading.proofs.entry_at.Goals as goal

pub returns-in_err-first : goal.returns-in_err-first
returns-in_err-first c =
    let refused : c.from_residual.result ≡ Err c.in_err-first.field-0.0 = search rules in
    ap entry_says refused ∙ refused_first _ _ _ _ _ (sym c.in_err-first.ensures)

pub last_tick-requires : goal.last_tick-requires
last_tick-requires c = (omega arith, (ranged_past _ _ _ _ _ _ _ (sym c.in_ok-first.ensures)).0.inside)

pub returns-in_err-last : goal.returns-in_err-last
returns-in_err-last c =
    let refused : c.from_residual-in_err-last.result ≡ Err c.in_err-last.field-0.0 = search rules in
    ap entry_says refused ∙ refused_last _ _ _ _ _ (sym c.in_ok-first.ensures) (sym c.in_err-last.ensures)

pub known_line-requires : goal.known_line-requires
known_line-requires c =
    (c.requires.0, (last_reach c.args.spans _ _ _ _ (sym c.in_ok-last.ensures) (ranged_past _ _ _ _ _ _ _ (sym c.in_ok-first.ensures)).0.inside).inside)

pub returns-in_err-signal : goal.returns-in_err-signal
returns-in_err-signal c =
    let refused : c.from_residual-in_err-signal.result ≡ Err c.in_err-signal.field-0.0 = search rules in
    ap entry_says refused ∙ refused_signal _ _ _ _ _ (sym c.in_ok-first.ensures) (sym c.in_ok-last.ensures) (sym c.in_err-signal.ensures)

pub value_line-requires : goal.value_line-requires
value_line-requires c = (known_past _ _ _ (sym c.in_ok-signal.ensures)).0.inside

pub returns-in_err-x : goal.returns-in_err-x
returns-in_err-x c =
    let refused : c.from_residual-in_err-x.result ≡ Err c.in_err-x.field-0.0 = search rules in
    ap entry_says refused ∙ refused_value _ _ _ _ _ (sym c.in_ok-first.ensures) (sym c.in_ok-last.ensures) (sym c.in_ok-signal.ensures) (sym c.in_err-x.ensures)

pub returns : goal.returns
returns c =
    entry_is _ _ _ _ _ (sym c.in_ok-first.ensures) (sym c.in_ok-last.ensures) (sym c.in_ok-signal.ensures) (sym c.in_ok-x.ensures)
