-- Each answer of ask, with the sheet and the table at hand.
-- Assumes nothing.
use mathlib.Core.Path.{◌≡◌, ap}
use mathlib.Core.List.{List}
use Prim.Native.Nat.{ℕ, ◌+◌, ◌*◌, ◌≤◌, ◌<◌}
use native.Mathlib.Nat.{mul-le-mul_right}
use native.Mathlib.Omega.{arith}
use lib.ListN.{length}
use Rattle.spec_tilco.specs.Table.{words, Stands, Answer, Asked}
use Rattle.open_sheet.specs.Results.{accepted, refused}
use Rattle.open_sheet.specs.OpenedSheet.{OpenedSheet}
use Rattle.open_table.specs.OpenedTable.{OpenedTable}
use Rattle.spec_operations.specs.Operations.{Asks}
use Rattle.spec_operations.specs.Operations.Asks.{out_of_range, asked}
use Rattle.spec_operations.proofs.Opened.{to_contents, some_words, signals_fit}

module _ {s T places B tops : List ℕ} {w t count : ℕ} (h : OpenedTable s T places B tops w t count) (n : ℕ) (e : n ≡ words w) where
  abbrev k : OpenedSheet s places B tops w t count
  k = h.sheet

  pub signal_past : (x y : ℕ) → length places ≤ x → Asks s T x y (refused 17 0)
  signal_past x y l = out_of_range h.table (λ r. absurd (omega (arith, r.0, ap length k.names_are)))

  pub tick_past : (x y : ℕ) → w ≤ y → Asks s T x y (refused 17 0)
  tick_past x y l = out_of_range h.table (λ r. absurd (omega (arith, r.1, k.window_is)))

  module _ (x y : ℕ) (i : x < length places) (j : y < w) where
    pub cell_in : (2 * (x + 1) * n ≤ length T) × (y < n * 64)
    cell_in =
        let b : 2 * (x + 1) * n ≤ 2 * length places * n = mul-le-mul_right n (omega arith) in
        (omega (arith, (signals_fit h n e).0), omega (arith, (some_words h n e).cover))

    pub answers : {a : Answer} → Asked (Stands n T) x y a → Asks s T x y (accepted a)
    answers {a} q =
        asked h.table (omega (arith, ap length k.names_are), omega (arith, k.window_is)) (to_contents h n e (λ p v m. Asked (Stands m T) x y a) q)
