-- `rest_end` meets its contract. The invariant: the line at `at` ends where that at `i` does. Assumes nothing.
use native.Mathlib.Omega.{arith}
use Rattle.read_lines.specs.Lines.{line_end}
use mathlib.Core.Path.{◌≡◌, refl, sym, ◌∙◌}
use Rattle.read_bytes.proofs.Runs.{end_more, end_here, end_past}
use Rattle.read_lines.proofs.KeyedLines.{lf_ends, lf_not}
use Rattle.read_lines.proofs.rest_end.Goals as goal

pub loop-i-init : goal.loop-i-init
loop-i-init c = refl

pub returns-then-s-i-eq10 : goal.returns-then-s-i-eq10
returns-then-s-i-eq10 c = sym (c.loop-i.invariant ∙ end_here _ _ _ (omega arith) (lf_ends _ c.if-s-i-eq10.true))

pub loop-i-preserved : goal.loop-i-preserved
loop-i-preserved c = c.loop-i.invariant ∙ end_more _ _ _ (omega arith) (lf_not _ c.if-s-i-eq10.false)

pub returns-then-at-s : goal.returns-then-at-s
returns-then-at-s c =
    let done : line_end c.args.s.now c.args.at ≡ c.loop-i.i = c.loop-i.invariant ∙ end_past _ _ _ (omega arith) in
    omega (arith, done, c.loop-i.auto.i-end)

pub returns-else-at-s : goal.returns-else-at-s
returns-else-at-s c = sym (end_past _ _ _ (omega arith))
