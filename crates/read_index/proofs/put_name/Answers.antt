-- `put_name` meets its contract. Assumes nothing.
use native.Mathlib.Omega.{arith}
use lib.ListN.{length-set}
use Rattle.read_index.proofs.Places.{put_is}
use Rattle.read_index.proofs.put_name.Goals as goal

pub bounds-names-slot : goal.bounds-names-slot
bounds-names-slot c = simp length-set (omega arith)

pub bounds-names-count-2 : goal.bounds-names-count-2
bounds-names-count-2 c = simp length-set (omega arith)

pub bounds-names-slot-2 : goal.bounds-names-slot-2
bounds-names-slot-2 c = simp length-set (omega arith)

pub returns : goal.returns
returns c = put_is _ _ _ _ _ (omega arith) c.requires.0
