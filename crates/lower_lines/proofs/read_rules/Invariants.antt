-- `read_rules` meets its contract. The invariant: the rules read so far are lowered as far as there was room. Assumes nothing.
use mathlib.Core.Path.{◌≡◌}
use mathlib.Core.List.{List}
use lib.ListN.{length}
use Rattle.spec_limits.specs.Limits.{arena_numbers}
use Rattle.spec_tilco.specs.Formula.{Written}
use Rattle.lower_rule.specs.RuleRows.{buffers}
use Rattle.read_index.specs.Index.{name_count}
use Prim.Native.Nat.{◌+◌}
use Rattle.lower_lines.proofs.Underway.{lines_of, state_of, Underway}
use Rattle.lower_lines.proofs.read_rules.Given as goal

abbrev pub invariant-loop-i : goal.invariant-loop-i
invariant-loop-i l = (ws : List Written) × Underway (lines_of l.s l.names l.m l.first (name_count l.names + l.hidden) (buffers l.initial.out l.initial.tops)) (state_of l.i l.place l.row l.lowered (buffers l.out l.tops)) ws × (length l.arena ≡ arena_numbers)
