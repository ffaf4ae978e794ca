-- `store_text` meets its contract. The invariant: the bytes from `b-index` on are left to be stored from `at` on. Assumes nothing.
use native.Mathlib.Omega.{arith}
use mathlib.Core.Path.{refl}
use Rattle.read_bytes.proofs.Places.{drop_in}
use Rattle.write_bytes.proofs.Writing.{stored, no_room}
use Rattle.write_bytes.proofs.Stores.{left_after}
use Rattle.write_bytes.proofs.store_text.Goals as goal
use Rattle.write_bytes.proofs.store_text.Goals.{then-at-out, else-at-out}

pub loop-b-preserved : goal.loop-b-preserved
loop-b-preserved c =
    let next = drop_in c.args.text.now c.loop-b.b-index 0 (omega arith) in
    elim c.if-at-out.branch [
      | then-at-out w ↦ rw w.out-is (left_after _ c.loop-b.invariant (stored refl) next)
      | else-at-out w ↦ rw w.out-is (left_after _ c.loop-b.invariant (no_room (omega arith) refl) next)
    ]
