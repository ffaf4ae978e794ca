-- The size of a formula, which falls where lowering calls itself.
-- Assumes nothing.
use Prim.Native.Nat.{ℕ, suc, ◌+◌, ◌<◌}
use native.Mathlib.Omega.{arith}
use Rattle.spec_tilco.specs.Formula.{Formula}

-- How many signals, signs and intervals a formula has.
unfoldable pub weight : Formula → ℕ
weight (Formula.sig x) = 1
weight (Formula.neg f) = suc (weight f)
weight (Formula.pair o f g) = suc (weight f + weight g)
weight (Formula.time u lo n f) = suc (weight f)

pub weight_some : (f : Formula) → 0 < weight f
unfolding weight
weight_some (Formula.sig x) = omega arith
weight_some (Formula.neg f) = omega arith
weight_some (Formula.pair o f g) = omega arith
weight_some (Formula.time u lo n f) = omega arith
