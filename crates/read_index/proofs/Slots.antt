-- Slots: how many there are, and the last of the first k names in one.
-- Assumes nothing.
use mathlib.Core.Path.{◌≡◌, refl, sym, ◌∙◌}
use mathlib.Core.Bool.{Bool, true, false}
use mathlib.Core.List.{List, [], ◌∷◌}
use Prim.Native.Nat.{ℕ, zero, suc, ◌+◌, ◌*◌, ◌%◌, ◌<◌, ◌≤◌}
use native.Mathlib.Omega.{arith}
use native.Mathlib.Decide.{dec_lt}
use borrow.Author.Tests.{eqb-true, eqb-false, eq-eqb, ne_eqb}
use lib.Dec.{eqb}
use lib.ListN.{get_or}
use Rattle.read_index.specs.Index.{slots, mixed, slot_of, last_in, mixed_numbers, golden}

mixed_below : (h : ℕ) (w : List ℕ) → h < mixed_numbers → mixed h w < mixed_numbers
unfolding mixed
mixed_below h [] k = k
mixed_below h (b ∷ w) k = mixed_below ((h + b) * golden % mixed_numbers) w (omega arith)

pub slot_below : (w : List ℕ) → slot_of w < slots
unfolding slot_of
slot_below w = omega (arith, mixed_below 0 w (omega arith))

module _ (names : List (List ℕ)) (b : ℕ) where
  -- The name k is in the slot, or it is not.
  pub last_here : (k : ℕ) → slot_of (get_or names k []) ≡ b → last_in names b (suc k) ≡ suc k
  unfolding last_in
  last_here k e = rw (eq-eqb (slot_of (get_or names k [])) b e)

  pub last_before : (k : ℕ) → (slot_of (get_or names k []) ≡ b → ⊥) → last_in names b (suc k) ≡ last_in names b k
  unfolding last_in
  last_before k n = rw (ne_eqb (slot_of (get_or names k [])) b n)

  pub last_none : last_in names b 0 ≡ 0
  unfolding last_in
  last_none = refl

  -- The last one is one of the first k.
  pub last_most : (k : ℕ) → last_in names b k ≤ k
  last_most zero = omega (arith, last_none)
  last_most (suc k) = go (eqb (slot_of (get_or names k [])) b) refl (last_most k)
    where
      go : (t : Bool) → eqb (slot_of (get_or names k [])) b ≡ t → last_in names b k ≤ k → last_in names b (suc k) ≤ suc k
      go true e h = omega (arith, last_here k (eqb-true (slot_of (get_or names k [])) b e))
      go false e h = omega (arith, last_before k (eqb-false (slot_of (get_or names k [])) b e))

  -- It is in the slot.
  pub last_in_lem : (k i : ℕ) → last_in names b k ≡ suc i → slot_of (get_or names i []) ≡ b
  last_in_lem zero i e = absurd (omega (arith, last_none))
  last_in_lem (suc k) i e = go (eqb (slot_of (get_or names k [])) b) refl (last_in_lem k i)
    where
      go : (t : Bool) → eqb (slot_of (get_or names k [])) b ≡ t → (last_in names b k ≡ suc i → slot_of (get_or names i []) ≡ b) → slot_of (get_or names i []) ≡ b
      go true d f =
          let h = eqb-true (slot_of (get_or names k [])) b d in
          let n : k ≡ i = omega (arith, last_here k h) in
          rw n at h
      go false d f = f (sym (last_before k (eqb-false (slot_of (get_or names k [])) b d)) ∙ e)

  -- None after it is.
  pub last_after : (k i : ℕ) → last_in names b k ≤ i → i < k → slot_of (get_or names i []) ≡ b → ⊥
  last_after zero i l u e = omega arith
  last_after (suc k) i l u e = go (eqb (slot_of (get_or names k [])) b) refl (dec_lt i k) (λ m v. last_after k i m v e)
    where
      go : (t : Bool) → eqb (slot_of (get_or names k [])) b ≡ t → Dec (i < k) → (last_in names b k ≤ i → i < k → ⊥) → ⊥
      go true d x f = omega (arith, last_here k (eqb-true (slot_of (get_or names k [])) b d))
      go false d (yes x) f = let h = last_before k (eqb-false (slot_of (get_or names k [])) b d) in f (omega arith) x
      go false d (no x) f =
          let n : i ≡ k = omega arith in
          eqb-false (slot_of (get_or names k [])) b d (rw n at e)

-- It does not depend on the names from the k-th on.
pub last_same : (ns ms : List (List ℕ)) (b k : ℕ) → ((i : ℕ) → i < k → get_or ns i [] ≡ get_or ms i []) → last_in ns b k ≡ last_in ms b k
unfolding last_in
last_same ns ms b zero h = refl
last_same ns ms b (suc k) h = rw (h k (omega arith), last_same ns ms b k (λ i l. h i (omega arith)))
