-- `read_lines` is safe and ends. The invariant: the next line follows those that were read, and their hidden signals are few. Assumes nothing.
use Prim.Native.Nat.{◌+◌, ◌-◌, ◌*◌, ◌≤◌}
use mathlib.Core.Path.{◌≡◌}
use lib.ListN.{length}
use Rattle.spec_limits.specs.Limits.{most_rule_bytes, arena_numbers}
use Rattle.read_bytes.proofs.Places.{Reach}
use Rattle.read_index.specs.Index.{name_count}
use Rattle.bench_operations.proofs.reading.read_lines.Given as goal

abbrev pub invariant-loop-done : goal.invariant-loop-done
invariant-loop-done l = Reach l.s l.first l.place × (l.row ≤ name_count l.names + most_rule_bytes * l.done) × (length l.arena ≡ arena_numbers)
