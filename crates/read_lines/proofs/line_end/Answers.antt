-- `line_end` meets its contract. The invariant: the line at `at` ends where that at `i` does, and what is not yet looked at starts there. Assumes nothing.
use native.Mathlib.Omega.{arith}
use mathlib.Core.Path.{refl, sym, ap, ◌∙◌}
use Rattle.read_bytes.proofs.Runs.{end_more, end_here}
use Rattle.read_lines.specs.Lines.{line_end}
use Rattle.read_lines.proofs.KeyedLines.{lf_ends, lf_not, past_byte, past_four, at_byte}
use Rattle.read_lines.proofs.line_end.Goals as goal
use Rattle.read_lines.proofs.line_end.Goals.{else-loop-i-test, then-loop-i-test+else-s-i-eq10+else-s-i-eq10-2+else-s-i-eq10-3+else-s-i-eq10-4+else-last-i-gt4}

pub loop-i-init : goal.loop-i-init
loop-i-init c = (refl, refl)

pub returns-then-s-i-eq10 : goal.returns-then-s-i-eq10
returns-then-s-i-eq10 c = sym (c.loop-i.invariant.0 ∙ end_here _ _ _ (omega arith) (lf_ends _ c.if-s-i-eq10.true))

pub returns-then-s-i-eq10-2 : goal.returns-then-s-i-eq10-2
returns-then-s-i-eq10-2 c =
    let one = c.loop-i.invariant.0 ∙ end_more _ _ _ (omega arith) (lf_not _ c.if-s-i-eq10.false) in
    at_byte _ _ _ 1 (omega arith) one c.if-s-i-eq10-2.true

pub returns-then-s-i-eq10-3 : goal.returns-then-s-i-eq10-3
returns-then-s-i-eq10-3 c =
    let one = c.loop-i.invariant.0 ∙ end_more _ _ _ (omega arith) (lf_not _ c.if-s-i-eq10.false) in
    let two = past_byte _ _ _ 1 (omega arith) one c.if-s-i-eq10-2.false in
    at_byte _ _ _ 2 (omega arith) two c.if-s-i-eq10-3.true

pub returns-then-s-i-eq10-4 : goal.returns-then-s-i-eq10-4
returns-then-s-i-eq10-4 c =
    let one = c.loop-i.invariant.0 ∙ end_more _ _ _ (omega arith) (lf_not _ c.if-s-i-eq10.false) in
    let two = past_byte _ _ _ 1 (omega arith) one c.if-s-i-eq10-2.false in
    let three = past_byte _ _ _ 2 (omega arith) two c.if-s-i-eq10-3.false in
    at_byte _ _ _ 3 (omega arith) three c.if-s-i-eq10-4.true

pub loop-i-preserved : goal.loop-i-preserved
loop-i-preserved c =
    (past_four _ _ _ (omega arith) c.loop-i.invariant.0 c.if-s-i-eq10.false c.if-s-i-eq10-2.false c.if-s-i-eq10-3.false c.if-s-i-eq10-4.false, refl)

pub returns : goal.returns
returns c =
    c.rest_end-2.ensures ∙ sym (elim c.loop-i-test.branch [
      | else-loop-i-test w ↦ c.loop-i.invariant.0 ∙ ap (line_end c.args.s.now) (sym (w.rest-is ∙ c.loop-i.invariant.1))
      | then-loop-i-test+else-s-i-eq10+else-s-i-eq10-2+else-s-i-eq10-3+else-s-i-eq10-4+else-last-i-gt4 w ↦ past_four _ _ _ (omega arith) c.loop-i.invariant.0 w.if-s-i-eq10.false w.if-s-i-eq10-2.false w.if-s-i-eq10-3.false w.if-s-i-eq10-4.false ∙ ap (line_end c.args.s.now) (sym w.rest-is)
    ])
