-- `write_vars` meets its contract. The invariant: the signals from `x` on are left to be written. Assumes nothing.
use native.Mathlib.Omega.{arith}
use mathlib.Core.Path.{refl}
use Rattle.write_bytes.proofs.Writing.{counted_like, counted_first}
use Rattle.write_bytes.proofs.Leaves.{left_all, left_rest, left_none, counted_left}
use Rattle.dump_text.proofs.Vars.{vars_next, vars_end}
use Rattle.dump_text.proofs.text.write_vars.Goals as goal

pub loop-x-init : goal.loop-x-init
loop-x-init c = left_all refl

pub write_var-requires : goal.write_var-requires
write_var-requires c =
    (omega (arith, c.requires.0), counted_first _ (counted_like (counted_left c.requires.1 c.loop-x.invariant) (vars_next c.args.s.now c.args.places.now c.loop-x.x (omega arith))))

pub loop-x-preserved : goal.loop-x-preserved
loop-x-preserved c =
    left_rest _ c.loop-x.invariant c.write_var.ensures (vars_next c.args.s.now c.args.places.now c.loop-x.x (omega arith))

pub returns : goal.returns
returns c =
    left_none c.loop-x.invariant (vars_end c.args.s.now c.args.places.now c.loop-x.x (omega arith))
