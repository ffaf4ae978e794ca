-- `guess_hidden` meets its contract. Assumes nothing.
use Prim.Native.Nat.{◌-◌, ◌≤◌}
use lib.ListN.{length}
use Rattle.spec_limits.specs.Limits.{most_hidden}
use Rattle.lower_sheet.proofs.guess.guess_hidden.Given as goal

abbrev pub invariant-loop-i : goal.invariant-loop-i
invariant-loop-i l = l.n ≤ most_hidden
