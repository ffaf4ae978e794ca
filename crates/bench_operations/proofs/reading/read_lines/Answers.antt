-- `read_lines` is safe and ends. The invariant: the next line follows those that were read, and their hidden signals are few. Assumes nothing.
use native.Mathlib.Omega.{arith}
use Prim.Native.Nat.{ℕ, ◌+◌, ◌*◌, ◌<◌, ◌≤◌}
use mathlib.Core.Path.{◌≡◌, refl}
use mathlib.Core.List.{List}
use lib.ListN.{length}
use Rattle.spec_limits.specs.Limits.{most_rule_bytes, arena_numbers}
use Rattle.read_bytes.proofs.Places.{Reach}
use Rattle.read_sheet.specs.RuleAnswers.{LineReady}
use Rattle.lower_lines.specs.InTurn.{Legible}
use Rattle.read_index.specs.Index.{places_in, name_count}
use Rattle.read_head.proofs.Signals.{up_to_lem}
use Rattle.read_sheet.proofs.Ruled.{rule_past}
use Rattle.bench_operations.proofs.reading.read_lines.Goals as goal

-- The next line can be read.
line_ready : {s names : List ℕ} {m first i p x : ℕ} (a : List ℕ) → Legible s names m first → Reach s first p → i < m → x ≤ name_count names + most_rule_bytes * i → length a ≡ arena_numbers → LineReady s a names p x
line_ready {names = names} a g z l r e = record {
  within = z.inside;
  before = up_to_lem z.ahead (places_in names) g.before;
  index = g.index;
  room = omega (arith, e);
  rows = omega (arith, r, g.index.few, g.most);
}

pub overflow_sub-row : goal.overflow_sub-row
overflow_sub-row c = omega (arith, c.requires.index.long)

pub loop-done-init : goal.loop-done-init
loop-done-init c = (record { ahead = omega arith; inside = c.requires.within }, omega arith, refl)

pub rule_line-requires : goal.rule_line-requires
rule_line-requires c =
    let z = c.loop-done.invariant in line_ready _ c.requires z.0 (omega arith) z.1 z.2

pub loop-done-preserved : goal.loop-done-preserved
loop-done-preserved c =
    let z = c.loop-done.invariant in
    let w = c.in_ok-read.ensures in
    let y = rule_past _ _ _ w.reads in
    (record { ahead = omega (arith, z.0.ahead, y.ahead); inside = y.inside }, omega (arith, z.1, w.few), omega (arith, z.2))
