-- `part_noted` meets its contract. Assumes nothing.
use native.Mathlib.Omega.{arith}
use mathlib.Core.Path.{◌≡◌, ap, ◌∙◌}
use borrow.Author.Rules.{rules}
use Rattle.std.specs.Prelude.{Err}
use Rattle.op_caption.specs.CaptioningSays.{captioning_says}
use Rattle.op_caption.proofs.Outcomes.{captions_off, many, part_past, part_shown, both_inside}
use Rattle.op_caption.proofs.part_noted.Goals as goal

pub returns-in_err-note_captions : goal.returns-in_err-note_captions
returns-in_err-note_captions c =
    let refused : c.from_residual.result ≡ Err c.in_err-note_captions.field-0.0 = search rules in
    ap captioning_says refused ∙ captions_off c.args.s.now c.args.names.now _ _ c.in_err-note_captions.ensures

pub returns-then-captions-signal : goal.returns-then-captions-signal
returns-then-captions-signal c = part_past c.args.s.now c.args.names.now _ _ c.in_ok-note_captions.ensures c.if-captions-signal.true

pub bounds-names-signal : goal.bounds-names-signal
bounds-names-signal c = omega (arith, many c.args.s.now c.args.names.now _ c.args.signal c.in_ok-note_captions.ensures, c.requires.0.long)

pub shown_part-requires : goal.shown_part-requires
shown_part-requires c = both_inside c.args.s.now c.args.names.now _ _ c.in_ok-note_captions.ensures (omega arith) c.requires.1

pub returns : goal.returns
returns c = part_shown c.args.s.now c.args.names.now _ _ c.in_ok-note_captions.ensures (omega arith) c.shown_part.ensures
