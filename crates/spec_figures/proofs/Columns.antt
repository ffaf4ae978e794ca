-- The columns of a record: what one more run adds to them, and that the four of a run add up to its ticks.
-- Assumes nothing.
use mathlib.Core.Path.{◌≡◌, refl}
use mathlib.Core.List.{List, [], ◌∷◌, ◌++◌}
use Prim.Native.Nat.{ℕ, zero, suc, ◌+◌}
use native.Mathlib.Omega.{arith}
use lib.Dec.{eqb}
use Rattle.spec_tilco.specs.Lists.{total}
use Rattle.spec_tilco.specs.Table.{Answer, Unsettled, True, False, Contradiction}
use Rattle.spec_tilco.proofs.Lists.{total_append}
use Rattle.write_lines.specs.LineTexts.{one_if}
use Rattle.list_signals.specs.Signals.{sign_byte}
use Rattle.spec_figures.specs.Records.{ticks_of}

-- What one entry more adds to what the entries come to.
pub snoc_total : {A : Type 0} (f : A → ℕ) (xs : List A) (y : A) → total f (xs ++ y ∷ []) ≡ total f xs + f y
snoc_total f xs y = omega (arith, total_append f xs (y ∷ []))

-- 1 if two answers are one, as the columns count.
abbrev pub alike : Answer → Answer → ℕ
alike a b = one_if (eqb (sign_byte a) (sign_byte b))

-- An answer is one of the four.
one_of_four : (a : Answer) → alike a True + alike a False + alike a Unsettled + alike a Contradiction ≡ 1
one_of_four Unsettled = refl
one_of_four True = refl
one_of_four False = refl
one_of_four Contradiction = refl

-- Each tick of a run is counted in one column.
pub ticks_add_up : (f : ℕ → Answer) (W : ℕ) → ticks_of True f W + ticks_of False f W + ticks_of Unsettled f W + ticks_of Contradiction f W ≡ W
unfolding ticks_of
ticks_add_up f zero = refl
ticks_add_up f (suc W) = omega (arith, ticks_add_up f W, one_of_four (f W))
