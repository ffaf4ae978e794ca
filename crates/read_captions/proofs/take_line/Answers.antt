-- `take_line` meets its contract. Assumes nothing.
use native.Mathlib.Omega.{arith}
use mathlib.Core.Path.{◌≡◌, sym, ap, ◌∙◌}
use borrow.Author.Rules.{rules}
use lib.ListN.{set}
use Rattle.read_bytes.specs.Bytes.{name_byte}
use Rattle.read_bytes.proofs.Answers.{hand_on}
use Rattle.read_bytes.proofs.Runs.{end_reach}
use Rattle.std.specs.Prelude.{ℕ, Some, Err}
use Rattle.read_captions.specs.Captions.{caption_line}
use Rattle.read_captions.proofs.CaptionLines.{line_placed, line_open, line_unknown, line_again, line_new}
use Rattle.read_captions.proofs.take_line.Goals as goal

pub returns-in_err-v : goal.returns-in_err-v
unfolding caption_line
returns-in_err-v c =
    let refused : c.from_residual.result ≡ Err c.in_err-v.field-0.0 = search rules in
    rw refused (sym (hand_on _ (sym c.in_err-v.ensures)))

pub overflow_add-next : goal.overflow_add-next
overflow_add-next c = omega (arith, line_placed _ _ (sym c.in_ok-v.ensures))

pub overflow_add-f : goal.overflow_add-f
overflow_add-f c = omega (arith, end_reach name_byte c.args.c.now c.args.p c.requires.1, c.find-f.ensures.ends)

pub returns-then-f-v : goal.returns-then-f-v
returns-then-f-v c = sym (line_open c.args.s.now c.args.names.now _ _ _ c.requires.1 (sym c.in_ok-v.ensures) c.find-f.ensures c.if-f-v.true)

pub returns-then-captions-x : goal.returns-then-captions-x
returns-then-captions-x c = sym (line_unknown c.args.s.now c.args.names.now _ _ _ c.requires.1 (sym c.in_ok-v.ensures) c.find-f.ensures c.if-f-v.false (omega (arith, c.requires.2, c.if-captions-x.true)))

pub returns-then-is_some : goal.returns-then-is_some
returns-then-is_some c = sym (line_again c.args.s.now c.args.names.now _ _ _ c.requires.1 (sym c.in_ok-v.ensures) c.find-f.ensures c.if-f-v.false (omega (arith, c.requires.2, c.if-captions-x.false)) (sym c.is_some.ensures ∙ c.if-is_some.true))

pub returns : goal.returns
returns c =
    let form = sym c.in_ok-v.ensures in
    record {
      line = sym (line_new c.args.s.now c.args.names.now _ _ _ c.requires.1 form c.find-f.ensures c.if-f-v.false (omega (arith, c.requires.2, c.if-captions-x.false)) (sym c.is_some.ensures ∙ c.if-is_some.false));
      noted = ap (λ (v : ℕ). set c.args.captions.now c.find-f.result.signal (Some v)) (line_placed _ _ form).place;
    }
