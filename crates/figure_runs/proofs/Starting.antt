-- The records before the first run have room, and are those of the signals in order. Assumes nothing.
use mathlib.Core.Path.{◌≡◌, ap, subst}
use mathlib.Core.List.{List}
use Prim.Native.Nat.{ℕ, ◌*◌, ◌^◌, ◌<◌, ◌≤◌}
use native.Mathlib.Omega.{arith}
use lib.ListN.{length}
use Rattle.spec_limits.specs.Limits.{most_signals}
use Rattle.read_names.specs.Spellings.{names_at}
use Rattle.read_names.proofs.Names.{names_many}
use Rattle.list_order.specs.Order.{in_order_lem}
use Rattle.list_order.proofs.Sorting.{order_long}
use Rattle.figure_run.specs.RecordWords.{record_words, Started}
use Rattle.figure_runs.specs.Runs.{RecordRoom, FreshRecords}

module _ (s places : List ℕ) {xs : List ℕ} (order : xs ≡ in_order_lem (names_at s places)) where
  pub few_records : {m : ℕ} → length places ≤ most_signals → record_words * most_signals ≤ m → (record_words * length xs ≤ m) × (record_words * length xs < 2 ^ 64)
  few_records few room =
      let l : length xs ≡ length (in_order_lem (names_at s places)) = ap length order in
      let m : length (in_order_lem (names_at s places)) ≡ length (names_at s places) = order_long (names_at s places) in
      (omega (arith, names_many s places), omega (arith, names_many s places))

  pub fresh_records : {ws ws' : List ℕ} → RecordRoom ws → Started xs ws ws' → FreshRecords (in_order_lem (names_at s places)) ws' × RecordRoom ws'
  fresh_records {ws} {ws'} room x = (subst (λ (l : List ℕ). FreshRecords l ws') order x.each, omega (arith, x.size))
