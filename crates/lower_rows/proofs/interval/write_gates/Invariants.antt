-- `write_gates` meets its contract: the loop has written the first i joins, and `last` is the last of them. Assumes nothing.
use mathlib.Core.Path.{◌≡◌}
use mathlib.Core.List.{map}
use Prim.Native.Nat.{◌≤◌}
use lib.Seq.{sets}
use Rattle.spec_limits.specs.Limits.{most_rows}
use Rattle.lower_rows.specs.RowCodes.{row_code}
use Rattle.lower_rows.specs.RowWrites.{gates, last_gate}
use Rattle.lower_rows.proofs.interval.write_gates.Given as goal

abbrev pub invariant-loop-i : goal.invariant-loop-i
invariant-loop-i l = (l.last ≤ most_rows) × (l.last ≡ last_gate l.first l.used l.i) × (l.out ≡ sets l.initial.out l.used (map row_code (gates l.gate l.first l.used l.i)))
