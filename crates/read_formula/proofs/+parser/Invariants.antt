-- The levels of the parser meet their contracts. A level's measure is what is left of the text, and its height. Assumes nothing.
-- In an answer `start` is where the function was called, `asked` what it requires, and `at_x` the place after x; `w` is how far a part came.
use Prim.Native.Nat.{◌+◌, ◌-◌}
use Rattle.read_arena.specs.declared.Sign.{Sign}
use Rattle.read_arena.specs.declared.Sign.TheVariants.{And, Or, Implies, Iff}
use Rattle.read_arena.specs.Nodes.{op_of}
use Prim.Native.Nat.{ℕ}
use Rattle.read_parts.proofs.Steps.{remaining}
use Rattle.read_parts.proofs.Turns.{Turn}
use Rattle.read_parts.specs.FormulaText.{below, plain_part}
use Rattle.read_index.specs.Index.{names_in, IndexOf}
use lib.ListN.{length}
use Rattle.read_formula.proofs.+parser.Given as goal

-- The height of a sign's level.
abbrev height : Sign → ℕ
height And = 4
height Or = 7
height Implies = 10
height Iff = 13

abbrev pub decreases-deny : goal.decreases-deny
decreases-deny l = remaining l.s.now l.at + 0

abbrev pub decreases-formula : goal.decreases-formula
decreases-formula l = remaining l.s.now l.at + 15

abbrev pub decreases-and_part : goal.decreases-and_part
decreases-and_part l = remaining l.s.now l.at + 6

abbrev pub decreases-or_part : goal.decreases-or_part
decreases-or_part l = remaining l.s.now l.at + 9

abbrev pub decreases-implication : goal.decreases-implication
decreases-implication l = remaining l.s.now l.at + 12

abbrev pub decreases-level : goal.decreases-level
decreases-level l = remaining l.s.now l.at + (height l.sign + 1)

abbrev pub decreases-below : goal.decreases-below
decreases-below l = remaining l.s.now l.at + height l.sign

abbrev pub decreases-keep : goal.decreases-keep
decreases-keep l = remaining l.s.now l.at + 0

abbrev pub decreases-operand : goal.decreases-operand
decreases-operand l = remaining l.s.now l.at + 2

abbrev pub decreases-paren : goal.decreases-paren
decreases-paren l = remaining l.s.now l.at + 0

abbrev pub decreases-plain_part : goal.decreases-plain_part
decreases-plain_part l = remaining l.s.now l.at + 1

abbrev pub decreases-second : goal.decreases-second
decreases-second l = remaining l.s.now l.at + 0

abbrev pub decreases-timed : goal.decreases-timed
decreases-timed l = remaining l.s.now l.at + 3

abbrev pub decreases-word : goal.decreases-word
decreases-word l = remaining l.s.now l.at + 0

-- A turn of a level's loop has read the parts before `place`, and joined them.
abbrev pub invariant-level-loop-part : goal.invariant-level-loop-part
invariant-level-loop-part l =
    Turn l.sign (below (op_of l.sign) (plain_part l.depth (names_in l.s l.names) l.s) l.s) l.s (IndexOf l.s l.names) l.initial.arena l.at l.used l.hidden l.first l.arena l.place l.nodes l.rows

abbrev pub decreases-level-loop-part : goal.decreases-level-loop-part
decreases-level-loop-part l = length l.s - l.place
