-- `store_text` meets its contract. The invariant: the bytes from `b-index` on are left to be stored from `at` on. Assumes nothing.
use lib.ListN.{drop}
use Rattle.write_bytes.proofs.Stores.{Left}
use Rattle.write_bytes.proofs.store_text.Given as goal

abbrev pub invariant-loop-b : goal.invariant-loop-b
invariant-loop-b l = Left l.text l.used l.initial.out (drop l.b-index l.text) l.at l.out
