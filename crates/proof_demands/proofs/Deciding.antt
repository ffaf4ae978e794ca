-- A finite table is looked through: whether a mark stands, whether one stands outside the window, whether there is a clash.
-- Assumes nothing.
use mathlib.Core.Path.{◌≡◌, subst}
use mathlib.Core.Bool.{Bool, true, false}
use mathlib.Core.List.{List}
use mathlib.Core.Logic.{◌⊎◌, inl, inr}
use Prim.Native.Nat.{ℕ, zero, suc, ◌+◌, ◌*◌, ◌/◌, ◌%◌, ◌<◌, ◌≤◌}
use native.Mathlib.Nat.{le-mul_of_pos_right}
use native.Mathlib.Decide.{ℕ_discrete, dec_lt}
use native.Mathlib.Omega.{arith}
use lib.ListN.{length, get_or, get_or-eq_default}
use Rattle.spec_ticks.specs.Ticks.{bit, Has, block}
use Rattle.spec_ticks.proofs.Bits.{no_ticks}
use Rattle.spec_tilco.specs.Inference.{mark, Marks, Clash}
use Rattle.spec_tilco.specs.Table.{Stands, Inside}

-- Numbers below n are looked through one by one.
found_below : (P : ℕ → Type 0) → ((i : ℕ) → Dec (P i)) → (n : ℕ) → Dec ((i : ℕ) × (i < n) × P i)
found_below P d zero = no (λ x. absurd (omega (arith, x.1)))
found_below P d (suc n) = go (d n) (found_below P d n)
  where
    go : Dec (P n) → Dec ((i : ℕ) × (i < n) × P i) → Dec ((i : ℕ) × (i < suc n) × P i)
    go (yes p) r = yes (n, omega arith, p)
    go (no p) (yes x) = yes (x.0, omega (arith, x.1), x.2)
    go (no p) (no f) = no (λ x. last x (ℕ_discrete x.0 n))
      where
        last : (x : (i : ℕ) × (i < suc n) × P i) → Dec (x.0 ≡ n) → ⊥
        last x (yes e) = p (subst P e x.2)
        last x (no e) = f (x.0, omega (arith, x.1), x.2)

-- A mark of the set.
pub record Found (Q : Marks) : Type 0 where
  pub row : ℕ
  pub tick : ℕ
  pub value : Bool
  pub is : Q (mark row tick value)

-- A set of marks within R rows and C ticks, of which each mark can be told, is empty or not.
module _ (Q : Marks) (told : (r t : ℕ) (v : Bool) → Dec (Q (mark r t v))) (R C : ℕ) (within : (r t : ℕ) (v : Bool) → Q (mark r t v) → (r < R) × (t < C)) where
  abbrev At : ℕ → ℕ → Type 0
  At r t = Q (mark r t true) ⊎ Q (mark r t false)

  at_told : (r t : ℕ) → Dec (At r t)
  at_told r t = go (told r t true) (told r t false)
    where
      go : Dec (Q (mark r t true)) → Dec (Q (mark r t false)) → Dec (At r t)
      go (yes i) d = yes (inl i)
      go (no i) (yes j) = yes (inr j)
      go (no i) (no j) = no neither
        where
          neither : At r t → ⊥
          neither (inl x) = i x
          neither (inr x) = j x

  look_through : Dec (Found Q)
  look_through = go (found_below (λ r. (t : ℕ) × (t < C) × At r t) (λ r. found_below (At r) (at_told r) C) R)
    where
      there : (r t : ℕ) → At r t → Found Q
      there r t (inl i) = record { row = r; tick = t; value = true; is = i }
      there r t (inr i) = record { row = r; tick = t; value = false; is = i }

      here : (r t : ℕ) (v : Bool) → Q (mark r t v) → At r t
      here r t true i = inl i
      here r t false i = inr i

      go : Dec ((r : ℕ) × (r < R) × ((t : ℕ) × (t < C) × At r t)) → Dec (Found Q)
      go (yes x) = yes (there x.0 x.2.0 x.2.2)
      go (no f) = no (λ z. let w = within z.row z.tick z.value z.is in f (z.row, w.0, (z.tick, w.1, here z.row z.tick z.value z.is)))

-- ---- the marks of a table

-- The marks outside the window W.
abbrev pub Late : ℕ → Marks → Marks
Late W S (mark r t v) = S (mark r t v) × (W ≤ t)

-- The marks of cells that clash.
abbrev Clashing : Marks → Marks
Clashing S (mark r t v) = S (mark r t true) × S (mark r t false)

module _ (n : ℕ) (T : List ℕ) where
  -- A mark's word is in the table.
  pub stands_at : (r t : ℕ) (v : Bool) → Stands n T (mark r t v) → block r v * n + t / 64 < length T
  stands_at r t v i = go (dec_lt (block r v * n + t / 64) (length T))
    where
      go : Dec (block r v * n + t / 64 < length T) → block r v * n + t / 64 < length T
      go (yes h) = h
      go (no h) =
          let z : get_or T (block r v * n + t / 64) 0 ≡ 0 = get_or-eq_default T 0 (omega arith) in
          absurd (omega (arith, no_ticks (t % 64), subst (λ (w : ℕ). Has w (t % 64)) z i.set_at))

  stands_within : (r t : ℕ) (v : Bool) → Stands n T (mark r t v) → (r < length T) × (t < n * 64)
  stands_within r t v i =
      let some : 1 ≤ n = omega (arith, i.within) in
      (omega (arith, le-mul_of_pos_right (block r v) some, stands_at r t v i), i.within)

  pub stands_told : (r t : ℕ) (v : Bool) → Dec (Stands n T (mark r t v))
  stands_told r t v = go (dec_lt t (n * 64)) (ℕ_discrete (bit (get_or T (block r v * n + t / 64) 0) (t % 64)) 1)
    where
      go : Dec (t < n * 64) → Dec (Has (get_or T (block r v * n + t / 64) 0) (t % 64)) → Dec (Stands n T (mark r t v))
      go (yes h) (yes e) = yes (record { within = h; set_at = e })
      go (yes h) (no e) = no (λ i. e i.set_at)
      go (no h) d = no (λ i. h i.within)

  -- A mark stands outside the window, or none does.
  pub inside_told : (W : ℕ) → Inside W (Stands n T) ⊎ Found (Late W (Stands n T))
  inside_told W = go (look_through (Late W (Stands n T)) (λ r t v. late r t v (stands_told r t v) (dec_lt t W)) (length T) (n * 64) (λ r t v i. stands_within r t v i.0))
    where
      late : (r t : ℕ) (v : Bool) → Dec (Stands n T (mark r t v)) → Dec (t < W) → Dec (Late W (Stands n T) (mark r t v))
      late r t v (yes i) (yes h) = no (λ x. absurd (omega (arith, x.1)))
      late r t v (yes i) (no h) = yes (i, omega arith)
      late r t v (no i) d = no (λ x. i x.0)

      early : (Found (Late W (Stands n T)) → ⊥) → (r t : ℕ) (v : Bool) → Stands n T (mark r t v) → Dec (t < W) → t < W
      early f r t v i (yes h) = h
      early f r t v i (no h) = absurd (f (record { row = r; tick = t; value = v; is = (i, omega arith) }))

      go : Dec (Found (Late W (Stands n T))) → Inside W (Stands n T) ⊎ Found (Late W (Stands n T))
      go (yes x) = inr x
      go (no f) = inl (λ r t v i. early f r t v i (dec_lt t W))

  -- There is a clash, or there is none.
  pub clash_told : Dec (Clash (Stands n T))
  clash_told = go (look_through (Clashing (Stands n T)) (λ r t v. two (stands_told r t true) (stands_told r t false)) (length T) (n * 64) (λ r t v i. stands_within r t true i.0))
    where
      two : {A B : Type 0} → Dec A → Dec B → Dec (A × B)
      two (yes a) (yes b) = yes (a, b)
      two (yes a) (no b) = no (λ x. b x.1)
      two (no a) d = no (λ x. a x.0)

      go : Dec (Found (Clashing (Stands n T))) → Dec (Clash (Stands n T))
      go (yes x) = yes (record { row = x.row; tick = x.tick; holds = x.is.0; fails = x.is.1 })
      go (no f) = no (λ c. f (record { row = c.row; tick = c.tick; value = true; is = (c.holds, c.fails) }))
