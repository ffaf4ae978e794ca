-- `count_facts` meets its contract. The invariant: the ones in the words so far are counted. Assumes nothing.
use native.Mathlib.Omega.{arith}
use Prim.Native.Nat.{◌*◌}
use lib.Count.{ones-le}
use lib.ListN.{get_or, length-take}
use Rattle.std.proofs.lemmas.List.{get_or-take}
use Prim.Native.Nat.{ℕ}
use Rattle.table_facts.proofs.Clashing.{tally_more, tally_none}
use Rattle.table_facts.proofs.count_facts.Goals as goal

pub loop-w-init : goal.loop-w-init
loop-w-init c = (tally_none _, omega arith)

pub loop-w-preserved : goal.loop-w-preserved
loop-w-preserved c =
    let t = tally_more c.args.marks.now c.loop-w.w-index in
    let l = ones-le 64 (get_or c.args.marks.now c.loop-w.w-index 0) (c.type_inv.marks c.loop-w.w-index).fits in
    let e = get_or-take (2 * c.args.k * c.args.n) c.args.marks.now c.loop-w.w-index 0 (omega (arith, length-take {A = ℕ})) in
    rw e (omega arith, omega arith)
