-- The last case of a match on a number that says a sign or a kind.
-- Assumes nothing.
use mathlib.Core.Path.{◌≡◌, refl}
use mathlib.Core.Bool.{false}
use Prim.Native.Nat.{ℕ, zero, suc}
use Rattle.read_arena.specs.Nodes.{sign_of, node_of}
use Rattle.read_arena.specs.declared.Sign.{Sign}
use Rattle.read_arena.specs.declared.Node.TheVariants.{Keep}

-- A number that is none of the first three.
pub sign_past : (z : ℕ) → ¬ (z ≡ 0) → ¬ (z ≡ 1) → ¬ (z ≡ 2) → sign_of z ≡ Sign.Iff
unfolding sign_of
sign_past zero a b c = absurd (a refl)
sign_past (suc zero) a b c = absurd (b refl)
sign_past (suc (suc zero)) a b c = absurd (c refl)
sign_past (suc (suc (suc z))) a b c = refl

-- A kind that is none of the first six.
pub kind_past : (k x y z : ℕ) → ¬ (k ≡ 0) → ¬ (k ≡ 1) → ¬ (k ≡ 2) → ¬ (k ≡ 3) → ¬ (k ≡ 4) → ¬ (k ≡ 5)
    → node_of k x y z ≡ Keep false x y z
unfolding node_of
kind_past zero x y z a b c d e f = absurd (a refl)
kind_past (suc zero) x y z a b c d e f = absurd (b refl)
kind_past (suc (suc zero)) x y z a b c d e f = absurd (c refl)
kind_past (suc (suc (suc zero))) x y z a b c d e f = absurd (d refl)
kind_past (suc (suc (suc (suc zero)))) x y z a b c d e f = absurd (e refl)
kind_past (suc (suc (suc (suc (suc zero))))) x y z a b c d e f = absurd (f refl)
kind_past (suc (suc (suc (suc (suc (suc k)))))) x y z a b c d e f = refl
