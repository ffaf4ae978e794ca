-- `digits` meets its contract. The invariant: what is left to read gives the same number, below 100000. Assumes nothing.
use mathlib.Core.Path.{◌≡◌}
use Prim.Native.Nat.{◌+◌, ◌-◌, ◌*◌, ◌^◌, ◌≤◌}
use lib.ListN.{length}
use Rattle.read_bytes.specs.Numbers.{digits}
use Rattle.read_bytes.proofs.numbers.digits.Given as goal

abbrev pub invariant-loop-read : goal.invariant-loop-read
invariant-loop-read l = (digits l.s l.most l.at 0 ≡ digits l.s (l.most - l.read) l.p l.v) × (l.p ≤ length l.s) × ((l.v + 1) * 10 ^ (l.most - l.read) ≤ 100000)
