-- `inside_window` meets its contract. The invariant: the last words of the blocks before k have no tick past the window. Assumes nothing.
use mathlib.Core.Path.{◌≡◌}
use Prim.Native.Nat.{ℕ, ◌+◌, ◌*◌, ◌/◌, ◌^◌, ◌<◌}
use lib.ListN.{get_or}
use Rattle.table_facts.proofs.inside_window.Given as goal

abbrev pub invariant-loop-k : goal.invariant-loop-k
invariant-loop-k l =
    (l.blocks ≡ 2 * l.count) × (l.n ≡ l.last + 1) × (l.window ≡ 64 * l.last + l.ticks) × (l.ticks < 64) × ((j : ℕ) → j < l.k → get_or l.marks (j * l.n + l.last) 0 / 2 ^ l.ticks ≡ 0)
