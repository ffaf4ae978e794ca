-- Whether a table changed: it did not, it did, and one change after another. Assumes nothing.
use mathlib.Core.Path.{◌≡◌, refl, ap, ◌∙◌}
use mathlib.Core.List.{List}
use mathlib.Core.Logic.{◌⊎◌, inl, inr, ⊎_elim}
use Prim.Native.Nat.{ℕ, zero, suc, ◌+◌, ◌≤◌, ◌<◌}
use native.Mathlib.Nat.{le_of_eq}
use native.Mathlib.Omega.{arith}
use Rattle.table_words.specs.WordTicks.{room, Tells}

pub some_or_none : (k : ℕ) → (0 < k) ⊎ (k ≡ 0)
some_or_none zero = inr refl
some_or_none (suc k) = inl (omega arith)

pub tells_none : (T : List ℕ) → Tells T T 0
tells_none T = record { still = λ e. refl; less_room = λ l. absurd (omega arith) }

pub tells_some : {T T' : List ℕ} → room T' < room T → Tells T T' 1
tells_some l = record { still = λ e. absurd (omega arith); less_room = λ h. l }

-- Another number that tells the same.
pub tells_as : {T T' : List ℕ} {x : ℕ} (z : ℕ) → z ≡ x → Tells T T' x → Tells T T' z
tells_as z e f = record { still = λ h. f.still (omega arith); less_room = λ h. f.less_room (omega arith) }

pub room_falls : {T T' : List ℕ} {x : ℕ} → Tells T T' x → room T' ≤ room T
room_falls {x = x} f = ⊎_elim (λ l. omega (arith, f.less_room l)) (λ e. le_of_eq (ap room (f.still e))) (some_or_none x)

pub tells_then : {T T' T'' : List ℕ} {x y : ℕ} → Tells T T' x → Tells T' T'' y → Tells T T'' (x + y)
tells_then {x = x} f g = record {
  still = λ e. g.still (omega arith) ∙ f.still (omega arith);
  less_room = λ l. ⊎_elim (λ h. omega (arith, f.less_room h, room_falls g)) (λ h. omega (arith, g.less_room (omega arith), room_falls f)) (some_or_none x);
}
