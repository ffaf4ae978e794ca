-- The number in a row code by its kind. Assumes nothing.
use mathlib.Core.Path.{◌≡◌, refl}
use mathlib.Core.Logic.{◌⊎◌, ⊎_elim}
use Prim.Native.Nat.{ℕ, ◌≤◌, ◌<◌}
use native.Mathlib.Omega.{arith}
use Rattle.close_rules.specs.declared.Kind.{Kind}
use Rattle.close_rules.specs.declared.Kind.TheVariants.{Signal, And, Or, Look, Not}
use Rattle.close_rules.specs.Kinds.{HasKind}

-- Another kind than a look's has another number.
pub other_number : {k : ℕ} (d : Kind) → HasKind d k → (d ≡ Look → ⊥) → k ≡ 3 → ⊥
other_number Signal h f e = omega (arith, h)
other_number And h f e = omega (arith, h)
other_number Or h f e = omega (arith, h)
other_number Look h f e = f refl
other_number Not h f e = omega (arith, h)

module _ {d : Kind} {k : ℕ} (h : HasKind d k) where
  -- A gate's.
  pub gate_number : (d ≡ And) ⊎ (d ≡ Or) → (0 < k) × (k ≤ 2)
  gate_number = ⊎_elim (λ e. let n : k ≡ 1 = rw e at h in (omega arith, omega arith)) (λ e. let n : k ≡ 2 = rw e at h in (omega arith, omega arith))

  -- That of a row with one child.
  pub single_number : (d ≡ Look) ⊎ (d ≡ Not) → 2 < k
  single_number = ⊎_elim (λ e. let n : k ≡ 3 = rw e at h in omega arith) (λ e. let n : 4 ≤ k = rw e at h in omega arith)
