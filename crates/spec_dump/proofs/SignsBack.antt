-- The dump that is written of signs says these signs.
-- Assumes nothing. f x t is the sign of signal x at tick t, N is how many signals there are, W the window; v is a sign before events, es are what follows them.
use mathlib.Core.Path.{◌≡◌, refl, sym, ap, ◌∙◌}
use mathlib.Core.Bool.{Bool, true, false}
use mathlib.Core.List.{List, [], ◌∷◌, ◌++◌}
use Prim.Native.Nat.{ℕ, zero, suc, ◌+◌, ◌-◌, ◌<◌, ◌≤◌}
use native.Mathlib.Omega.{arith}
use native.Mathlib.Decide.{dec_lt}
use borrow.Author.Tests.{lt-ltb, le-ltb, eqb-true, eqb-false}
use lib.Dec.{eqb}
use Rattle.read_bytes.specs.Bytes.{byte, pick}
use Rattle.spec_dump.specs.DumpTexts.{Event, sign}
use Rattle.spec_dump.specs.DumpSigns.{sign_at_lem, dump_sign}
use Rattle.spec_dump.specs.TableSigns.{signs_at, changes_at, timed, changes_from, sign_events}

module _ (f : ℕ → ℕ → ℕ) (x t : ℕ) where
  -- ---- the signs at one tick u

  -- What the line of signal y makes of the sign of x: that at u for the signals up to y, and for a later one no change.
  after_line : (u y v : ℕ) → (x < y → v ≡ f x u) → x < suc y → pick (eqb y x) (λ _. f y u) v ≡ f x u
  after_line u y v h l = go (eqb y x) refl
    where
      go : (b : Bool) → eqb y x ≡ b → pick b (λ _. f y u) v ≡ f x u
      go true e = ap (λ z. f z u) (eqb-true y x e)
      go false e = let k : y ≡ x → ⊥ = eqb-false y x e in h (omega (arith, k))

  before_line : (c y v : ℕ) → suc y ≤ x → pick (eqb y x) (λ _. c) v ≡ v
  before_line c y v l = go (eqb y x) refl
    where
      go : (b : Bool) → eqb y x ≡ b → pick b (λ _. c) v ≡ v
      go true e = absurd (omega (arith, eqb-true y x e))
      go false e = refl

  -- After the lines of all signals, each has its sign at that tick,
  all_said : (u y n v : ℕ) (es : List Event) → (x < y → v ≡ f x u) → x < y + n → sign_at_lem x t v (signs_at f u y n ++ es) ≡ sign_at_lem x t (f x u) es
  unfolding signs_at sign_at_lem
  all_said u y zero v es h l = ap (λ w. sign_at_lem x t w es) (h (omega arith))
  all_said u y (suc n) v es h l = all_said u (suc y) n (pick (eqb y x) (λ _. f y u) v) es (after_line u y v h) (omega arith)

  -- and so it is after those that differ from the signs at the tick before.
  changes_said : (u y n v : ℕ) (es : List Event) → (x < y → v ≡ f x u) → (y ≤ x → v ≡ f x (u - 1)) → x < y + n → sign_at_lem x t v (changes_at f u y n ++ es) ≡ sign_at_lem x t (f x u) es
  unfolding changes_at sign_at_lem
  changes_said u y zero v es h k l = ap (λ w. sign_at_lem x t w es) (h (omega arith))
  changes_said u y (suc n) v es h k l =
      go (eqb (f y u) (f y (u - 1))) refl (λ i. changes_said u (suc y) n v es i (λ m. k (omega arith)) (omega arith))
      (changes_said u (suc y) n (pick (eqb y x) (λ _. f y u) v) es (after_line u y v h) (λ m. before_line (f y u) y v m ∙ k (omega arith)) (omega arith))
    where
      here : f y u ≡ f y (u - 1) → Dec (x < y) → x < suc y → v ≡ f x u
      here e (yes m) i = h m
      here e (no m) i = let z : x ≡ y = omega arith in k (omega arith) ∙ (rw z (sym e))

      go : (b : Bool) → eqb (f y u) (f y (u - 1)) ≡ b → ((x < suc y → v ≡ f x u) → sign_at_lem x t v (changes_at f u (suc y) n ++ es) ≡ sign_at_lem x t (f x u) es)
          → sign_at_lem x t v (sign y (f y u) ∷ changes_at f u (suc y) n ++ es) ≡ sign_at_lem x t (f x u) es
          → sign_at_lem x t v (pick b (λ _. changes_at f u (suc y) n) (sign y (f y u) ∷ changes_at f u (suc y) n) ++ es) ≡ sign_at_lem x t (f x u) es
      go true e r s = r (here (eqb-true _ _ e) (dec_lt x y))
      go false e r s = s

  -- ---- the times

  -- A time that is reached changes nothing,
  reached : (u v : ℕ) (ds es : List Event) → u ≤ t → sign_at_lem x t v (timed u ds ++ es) ≡ sign_at_lem x t v (ds ++ es)
  unfolding sign_at_lem
  reached u v [] es l = refl
  reached u v (d ∷ ds) es l = rw (le-ltb t u l)

  -- and what stands from a later time on is not looked at.
  not_reached : (N u n v : ℕ) → t < u → sign_at_lem x t v (changes_from f N u n) ≡ v
  unfolding changes_from sign_at_lem
  not_reached N u zero v l = refl
  not_reached N u (suc n) v l = go (changes_at f u 0 N) (not_reached N (suc u) n v (omega arith))
    where
      go : (ds : List Event) → sign_at_lem x t v (changes_from f N (suc u) n) ≡ v → sign_at_lem x t v (timed u ds ++ changes_from f N (suc u) n) ≡ v
      go [] r = r
      go (d ∷ ds) r = rw (lt-ltb t u l)

  -- ---- tick by tick

  -- The sign before the changes from tick u on is that at the tick before.
  changes_back : (N u n v : ℕ) → x < N → v ≡ f x (u - 1) → u ≤ t + 1 → t < u + n → sign_at_lem x t v (changes_from f N u n) ≡ f x t
  unfolding changes_from sign_at_lem
  changes_back N u zero v i e l h = let z : u - 1 ≡ t = omega arith in e ∙ ap (f x) z
  changes_back N u (suc n) v i e l h = let z : u ≡ suc u - 1 = omega arith in go (dec_lt t u) (λ k. changes_back N (suc u) n (f x u) i (ap (f x) z) k (omega arith))
    where
      go : Dec (t < u) → (suc u ≤ t + 1 → sign_at_lem x t (f x u) (changes_from f N (suc u) n) ≡ f x t) → sign_at_lem x t v (timed u (changes_at f u 0 N) ++ changes_from f N (suc u) n) ≡ f x t
      go (yes k) r = let z : u - 1 ≡ t = omega arith in not_reached N u (suc n) v k ∙ e ∙ ap (f x) z
      go (no k) r =
          reached u v (changes_at f u 0 N) (changes_from f N (suc u) n) (omega arith)
          ∙ changes_said u 0 N v (changes_from f N (suc u) n) (λ m. absurd (omega arith)) (λ m. e) (omega arith) ∙ r (omega arith)

-- In the dump that is written of the signs f, the sign of signal x at tick t is f x t.
pub signs_back : (f : ℕ → ℕ → ℕ) (N W x t : ℕ) → x < N → t < W → dump_sign (sign_events f N W) x t ≡ f x t
unfolding sign_events
signs_back f N W x t i l =
    all_said f x t 0 0 N (byte "x") (changes_from f N 1 (W - 1)) (λ m. absurd (omega arith)) (omega arith)
    ∙ changes_back f x t N 1 (W - 1) (f x 0) i refl (omega arith) (omega arith)
