-- The events of one tick, signal by signal, and their lines.
-- Assumes nothing. f x t is the sign of signal x at tick t.
use mathlib.Core.Path.{◌≡◌, refl, ap, sym, ◌∙◌}
use mathlib.Core.List.{List, [], ◌∷◌, ◌++◌, append_assoc, flatten}
use Prim.Native.Nat.{ℕ, zero, suc, ◌+◌, ◌-◌, ◌<◌, ◌≤◌}
use native.Mathlib.Numerals.{add-one}
use native.Mathlib.Decide.{ℕ_discrete}
use native.Mathlib.Omega.{arith}
use borrow.Author.Tests.{eq-eqb, ne_eqb}
use Rattle.spec_dump.specs.DumpTexts.{Event, time, sign, event_text, events_text}
use Rattle.spec_dump.specs.TableSigns.{signs_at, changes_at, timed}

-- The lines of two series of events are those of the one and those of the other.
pub events_append : (a b : List Event) → events_text (a ++ b) ≡ events_text a ++ events_text b
unfolding events_text flatten
events_append [] b = refl
events_append (e ∷ a) b = ap (λ (l : List ℕ). event_text e ++ l) (events_append a b) ∙ sym (append_assoc (event_text e) (events_text a) (events_text b))

-- The signals from x on at tick t.
module _ (f : ℕ → ℕ → ℕ) (t k x : ℕ) where
  pub signs_next : x < k → events_text (signs_at f t x (k - x)) ≡ event_text (sign x (f x t)) ++ events_text (signs_at f t (x + 1) (k - (x + 1)))
  unfolding events_text flatten signs_at
  signs_next h = let e : k - x ≡ suc (k - (x + 1)) = omega arith in rw (e, add-one)

  pub signs_end : k ≤ x → events_text (signs_at f t x (k - x)) ≡ []
  unfolding events_text flatten signs_at
  signs_end h = let e : k - x ≡ 0 = omega arith in rw e

  -- The next signal's sign s is another than its sign o at the tick before,
  pub changed_next : {e s o : ℕ} → x < k → s ≡ f x t → o ≡ f x e → e ≡ t - 1 → (s ≡ o → ⊥) → events_text (changes_at f t x (k - x)) ≡ event_text (sign x s) ++ events_text (changes_at f t (x + 1) (k - (x + 1)))
  unfolding events_text flatten changes_at
  changed_next h is was e d =
      let n : k - x ≡ suc (k - (x + 1)) = omega arith in
      let g : f x t ≡ f x (t - 1) → ⊥ = λ i. d (is ∙ i ∙ ap (f x) (sym e) ∙ sym was) in
      rw (n, ne_eqb (f x t) (f x (t - 1)) g, is, add-one)

  -- or the same.
  pub same_next : {e s o : ℕ} → x < k → s ≡ f x t → o ≡ f x e → e ≡ t - 1 → s ≡ o → events_text (changes_at f t x (k - x)) ≡ events_text (changes_at f t (x + 1) (k - (x + 1)))
  unfolding events_text flatten changes_at
  same_next h is was e d =
      let n : k - x ≡ suc (k - (x + 1)) = omega arith in
      rw (n, eq-eqb (f x t) (f x (t - 1)) (sym is ∙ d ∙ was ∙ ap (f x) e), add-one)

  pub changes_end : k ≤ x → events_text (changes_at f t x (k - x)) ≡ []
  unfolding events_text flatten changes_at
  changes_end h = let e : k - x ≡ 0 = omega arith in rw e

-- A sign of the n signals from x on changes at tick t, of which one is signal y.
something_changes : (f : ℕ → ℕ → ℕ) (t x n y : ℕ) → x ≤ y → y < x + n → (f y t ≡ f y (t - 1) → ⊥) → (e : Event) × (es : List Event) × (changes_at f t x n ≡ e ∷ es)
unfolding changes_at
something_changes f t x zero y l h d = absurd (omega arith)
something_changes f t x (suc n) y l h d = go (ℕ_discrete (f x t) (f x (t - 1))) (ℕ_discrete x y) (something_changes f t (suc x) n y)
  where
    go : Dec (f x t ≡ f x (t - 1)) → Dec (x ≡ y) → (suc x ≤ y → y < suc x + n → (f y t ≡ f y (t - 1) → ⊥) → (e : Event) × (es : List Event) × (changes_at f t (suc x) n ≡ e ∷ es))
        → (e : Event) × (es : List Event) × (changes_at f t x (suc n) ≡ e ∷ es)
    go (no a) b i = (sign x (f x t), changes_at f t (suc x) n, rw (ne_eqb (f x t) (f x (t - 1)) a))
    go (yes a) (yes b) i = absurd (d (rw b at a))
    go (yes a) (no b) i = let r = i (omega arith) (omega arith) d in (r.0, r.1, rw (eq-eqb (f x t) (f x (t - 1)) a) r.2)

-- None changes.
nothing_changes : (f : ℕ → ℕ → ℕ) (t x n : ℕ) → ((y : ℕ) → y < x + n → f y t ≡ f y (t - 1)) → changes_at f t x n ≡ []
unfolding changes_at
nothing_changes f t x zero q = refl
nothing_changes f t x (suc n) q = rw (eq-eqb (f x t) (f x (t - 1)) (q x (omega arith))) (nothing_changes f t (suc x) n (λ y h. q y (omega arith)))

-- The sign of one of the first k signals changes at tick t.
abbrev pub Moves : (ℕ → ℕ → ℕ) → ℕ → ℕ → Type 0
Moves f k t = (x : ℕ) × (x < k) × (f x t ≡ f x (t - 1) → ⊥)

module _ (f : ℕ → ℕ → ℕ) (k t : ℕ) where
  -- Then the tick's lines are that of its time and those of the signs,
  pub tick_moves : Moves f k t → events_text (timed t (changes_at f t 0 k)) ≡ event_text (time t) ++ events_text (changes_at f t 0 (k - 0))
  unfolding events_text flatten
  tick_moves m =
      let z : k - 0 ≡ k = omega arith in
      let s = something_changes f t 0 k m.0 (omega arith) (omega (arith, m.1)) m.2 in
      rw (z, s.2)

  -- and else it has none.
  pub tick_rests : (Moves f k t → ⊥) → timed t (changes_at f t 0 k) ≡ []
  tick_rests q = ap (timed t) (nothing_changes f t 0 k (λ y h. go y (omega arith) (ℕ_discrete (f y t) (f y (t - 1)))))
    where
      go : (y : ℕ) → y < k → Dec (f y t ≡ f y (t - 1)) → f y t ≡ f y (t - 1)
      go y h (yes e) = e
      go y h (no d) = absurd (q (y, h, d))
