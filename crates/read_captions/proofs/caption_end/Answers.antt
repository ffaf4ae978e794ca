-- `caption_end` meets its contract. The invariant: the caption at `at` ends where that at `i` does. Assumes nothing.
use native.Mathlib.Omega.{arith}
use mathlib.Core.Path.{◌≡◌, sym, ◌∙◌}
use mathlib.Core.Bool.{false}
use lib.ListN.{get_or}
use Rattle.read_bytes.proofs.Runs.{end_more, end_here, end_past}
use Rattle.read_captions.specs.Captions.{printable, caption_end}
use Rattle.read_captions.proofs.CaptionBytes.{is_printable, too_low, too_high}
use Rattle.read_captions.proofs.caption_end.Goals as goal
use Rattle.read_captions.proofs.caption_end.Goals.{then-c-i-lt32-via-then-c-i-lt32, then-c-i-lt32-via-else-c-i-lt32+then-c-i-gt126}

pub returns-then-c-i-lt32 : goal.returns-then-c-i-lt32
returns-then-c-i-lt32 c =
    let ends : printable (get_or c.args.c.now c.loop-i.i 0) ≡ false = elim c.then-c-i-lt32.branch [
      | then-c-i-lt32-via-then-c-i-lt32 w ↦ too_low _ w.if-c-i-lt32.true
      | then-c-i-lt32-via-else-c-i-lt32+then-c-i-gt126 w ↦ too_high _ w.if-c-i-gt126.true
    ] in
    sym (c.loop-i.invariant ∙ end_here _ _ _ (omega arith) ends)

pub loop-i-preserved : goal.loop-i-preserved
loop-i-preserved c = c.loop-i.invariant ∙ end_more _ _ _ (omega arith) (is_printable _ (omega (arith, c.if-c-i-lt32.false)) (omega (arith, c.if-c-i-gt126.false)))

pub returns-then-at-c : goal.returns-then-at-c
returns-then-at-c c =
    let done : caption_end c.args.c.now c.args.at ≡ c.loop-i.i = c.loop-i.invariant ∙ end_past _ _ _ (omega arith) in
    omega (arith, done, c.loop-i.auto.i-end)

pub returns-else-at-c : goal.returns-else-at-c
returns-else-at-c c = sym (end_past _ _ _ (omega arith))
