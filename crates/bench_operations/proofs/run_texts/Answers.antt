-- `run_texts` is safe and ends. Assumes nothing.
use Rattle.std.proofs.Common.{ℕ, ◌≤◌, List, length, take, arith}
use lib.ListN.{length-take}
use Rattle.bench_operations.proofs.run_texts.Goals as goal

-- The words in use are no more than those asked for.
taken_most : {n m : ℕ} (xs : List ℕ) → n ≤ m → length (take n xs) ≤ m
taken_most xs h = simp length-take (omega (arith, h))

pub run_table-requires : goal.run_table-requires
run_table-requires g c = taken_most _ c.words_for-words.ensures
