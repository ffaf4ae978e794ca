-- `line_of` meets its contract. The loop's invariant: the line that is left to be found from here is the one that is asked for, and its place can be counted.
-- Assumes nothing.
use Prim.Native.Nat.{◌+◌, ◌-◌}
use mathlib.Core.Path.{◌≡◌, refl, sym, ◌∙◌}
use native.Mathlib.Omega.{arith}
use Rattle.op_print.proofs.RulesFound.{line_here, line_after, line_within}
use Rattle.op_print.proofs.line_of.Goals as goal

pub loop-passed-init : goal.loop-passed-init
loop-passed-init c = let all : c.args.rule - 0 ≡ c.args.rule = omega arith in rw all (refl, omega arith)

pub overflow_add-at : goal.overflow_add-at
overflow_add-at c = omega arith

pub overflow_add-at-in-loop-passed : goal.overflow_add-at-in-loop-passed
overflow_add-at-in-loop-passed c =
    omega (arith, c.line_end-at.ensures, line_within c.args.s.now c.loop-passed.at (c.args.rule - c.loop-passed.passed) c.args.rule (omega arith) (omega arith) (omega arith))

pub loop-passed-preserved : goal.loop-passed-preserved
loop-passed-preserved c =
    let left = c.args.rule - c.loop-passed.passed in
    let next : left - 1 ≡ c.args.rule - (c.loop-passed.passed + 1) = omega arith in
    let within = line_within c.args.s.now c.loop-passed.at left c.args.rule (omega arith) (omega arith) (omega arith) in
    rw (c.line_end-at.ensures, ← next) (sym (line_after c.args.s.now left c.loop-passed.at (omega arith)) ∙ c.loop-passed.invariant.0, within)

pub returns : goal.returns
returns c = sym (line_here c.args.s.now (c.args.rule - c.loop-passed.passed) c.loop-passed.at (omega arith)) ∙ c.loop-passed.invariant.0
