-- Signs by events and held signs: what an event does to the signs that are held, and to the readings that are still to come.
-- Assumes nothing. N is how many signals there are, W the window; `signs` are the signs before the events `es`, at time u.
use mathlib.Core.Path.{◌≡◌, refl, sym, ap, ◌∙◌}
use mathlib.Core.Bool.{Bool, true, false}
use mathlib.Core.List.{List, [], ◌∷◌, ◌++◌, append_assoc}
use Prim.Native.Nat.{ℕ, zero, suc, ◌+◌, ◌-◌, ◌<◌, ◌≤◌}
use native.Mathlib.Nat.{suc-add}
use native.Mathlib.Omega.{arith}
use borrow.Author.Tests.{lt-ltb, le-ltb, eqb-true, eqb-false}
use lib.Dec.{eqb}
use lib.ListN.{length, get_or, set}
use lib.Seq.{get_or-set_same, get_or-set_other}
use Rattle.read_bytes.specs.Bytes.{pick}
use Rattle.read_reading.specs.Spans.{Span}
use Rattle.spec_dump.specs.DumpTexts.{Event, time, sign}
use Rattle.spec_dump.specs.DumpSigns.{sign_at_lem, readings_at, sign_readings}
use Rattle.spec_dump.proofs.SignReadings.{readings_as}
use Rattle.dump_readings.specs.HeldSigns.{held}

-- The readings before a tick, and those from it on.
ticks_split : (f : ℕ → ℕ → ℕ) (N t a b : ℕ) → sign_readings f N t (a + b) ≡ sign_readings f N t a ++ sign_readings f N (t + a) b
unfolding sign_readings
ticks_split f N t zero b = let e : t + 0 ≡ t = omega arith in let g : 0 + b ≡ b = omega arith in rw (e, g)
ticks_split f N t (suc a) b =
    let e : t + suc a ≡ suc t + a = omega arith in
    rw (e, suc-add a b) (ap (λ (es : List Span). readings_at f t 0 N ++ es) (ticks_split f N (suc t) a b) ∙ sym (append_assoc (readings_at f t 0 N) (sign_readings f N (suc t) a) (sign_readings f N (suc t + a) b)))

ticks_apart : (f : ℕ → ℕ → ℕ) (N : ℕ) {u v W : ℕ} → u ≤ v → v ≤ W → sign_readings f N u (W - u) ≡ sign_readings f N u (v - u) ++ sign_readings f N v (W - v)
ticks_apart f N {u} {v} {W} a b =
    let e : W - u ≡ v - u + (W - v) = omega arith in
    let g : u + (v - u) ≡ v = omega arith in
    rw e (rw g at (ticks_split f N u (v - u) (W - v)))

-- ---- events

-- The sign of signal x at tick t, after the events.
abbrev pub signs_after : List ℕ → List Event → ℕ → ℕ → ℕ
signs_after signs es x t = sign_at_lem x t (get_or signs x 0) es

module _ (N W u : ℕ) (signs : List ℕ) where
  -- The readings that are still to come.
  abbrev pub to_come : List Event → List Span
  to_come es = sign_readings (signs_after signs es) N u (W - u)

  -- After the last event the signs are held.
  pub none_come : to_come [] ≡ sign_readings (held signs) N u (W - u)
  unfolding sign_at_lem
  none_come = refl

  -- A time: the signs are held up to it.
  pub time_comes : (v : ℕ) (es : List Event) → u ≤ v → v ≤ W → to_come (time v ∷ es) ≡ sign_readings (held signs) N u (v - u) ++ sign_readings (signs_after signs es) N v (W - v)
  unfolding sign_at_lem
  time_comes v es a b =
      ticks_apart (signs_after signs (time v ∷ es)) N a b
      ∙ ap (λ (xs : List Span). xs ++ sign_readings (signs_after signs (time v ∷ es)) N v (W - v)) (readings_as (signs_after signs (time v ∷ es)) (held signs) N u (v - u) (λ x l s k h. let j : s < v = omega arith in rw (lt-ltb s v j)))
      ∙ ap (λ (xs : List Span). sign_readings (held signs) N u (v - u) ++ xs) (readings_as (signs_after signs (time v ∷ es)) (signs_after signs es) N v (W - v) (λ x l s k h. rw (le-ltb s v k)))

-- A sign is put among those held.
put_sign : (signs : List ℕ) (y c x : ℕ) → y < length signs → pick (eqb y x) (λ _. c) (get_or signs x 0) ≡ get_or (set signs y c) x 0
put_sign signs y c x h = go (eqb y x) refl
  where
    go : (b : Bool) → eqb y x ≡ b → pick b (λ _. c) (get_or signs x 0) ≡ get_or (set signs y c) x 0
    go true e = let i : x ≡ y = omega (arith, eqb-true y x e) in rw i (sym (get_or-set_same signs y c 0 h))
    go false e = sym (get_or-set_other signs y x c 0 (λ i. eqb-false y x e (sym i)))

pub sign_comes : (N W u : ℕ) (signs : List ℕ) (y c : ℕ) (es : List Event) → y < length signs → to_come N W u signs (sign y c ∷ es) ≡ to_come N W u (set signs y c) es
unfolding sign_at_lem
sign_comes N W u signs y c es h =
    readings_as (signs_after signs (sign y c ∷ es)) (signs_after (set signs y c) es) N u (W - u) (λ x l s a b. ap (λ (z : ℕ). sign_at_lem x s z es) (put_sign signs y c x h))
