-- `line_of` meets its contract. The loop's invariant: the line that is left to be found from here is the one that is asked for, and its place can be counted.
-- Assumes nothing.
use mathlib.Core.Path.{◌≡◌}
use Prim.Native.Nat.{◌+◌, ◌-◌, ◌*◌, ◌≤◌}
use lib.ListN.{length}
use Rattle.op_print.specs.RuleLines.{line_of}
use Rattle.op_print.proofs.line_of.Given as goal

abbrev pub invariant-loop-passed : goal.invariant-loop-passed
invariant-loop-passed l = (line_of l.s (l.rule - l.passed) l.at ≡ line_of l.s l.rule l.first) × (l.at + 6 * (l.rule - l.passed) ≤ length l.s + 6 * l.rule)
