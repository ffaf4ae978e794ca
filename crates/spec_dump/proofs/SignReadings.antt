-- The readings that are written of signs: they depend on the signs alone, which they are, in which order, and what they mark.
-- Assumes nothing. f x t is the sign of signal x at tick t, N is how many signals there are, n how many ticks from t on, W the window.
use mathlib.Core.Path.{◌≡◌, refl, sym, ap, ap₂, subst, ◌∙◌}
use mathlib.Core.Bool.{Bool, true, false}
use mathlib.Core.List.Memᴰ
use mathlib.Core.List.{List, [], ◌∷◌, ◌++◌, Memᴰ}
use mathlib.Core.Logic.{inl, inr, ⊎_elim, ◌↔◌}
use Prim.Native.Nat.{ℕ, zero, suc, ◌+◌, ◌<◌, ◌≤◌}
use native.Mathlib.Omega.{arith}
use native.Mathlib.Decide.{dec_lt}
use borrow.Author.Tests.{eqb-true}
use lib.Dec.{eqb}
use Rattle.read_bytes.specs.Bytes.{byte, pick}
use Rattle.spec_tilco.specs.Inference.{mark}
use Rattle.spec_tilco.specs.Table.{ReadMarks}
use Rattle.spec_tilco.proofs.Lists.{all_append, all_of_lem}
use Rattle.read_reading.specs.Spans.{Span, span, marks_of_all}
use Rattle.read_reading.proofs.SpanMarks.{in_one, one_in, of_span, in_span}
use Rattle.spec_dump.specs.DumpSigns.{reading_of, readings_at, sign_readings, value_sign, Earlier, ByTick}

-- ---- the same signs give the same readings

module _ (f g : ℕ → ℕ → ℕ) where
  tick_as : (t x n : ℕ) → ((y : ℕ) → x ≤ y → y < x + n → f y t ≡ g y t) → readings_at f t x n ≡ readings_at g t x n
  unfolding readings_at
  tick_as t x zero h = refl
  tick_as t x (suc n) h = ap₂ (λ (b : ℕ) (l : List Span). reading_of x t b ++ l) (h x (omega arith) (omega arith)) (tick_as t (suc x) n (λ y l i. h y (omega arith) (omega arith)))

  pub readings_as : (N t n : ℕ) → ((x : ℕ) → x < N → (s : ℕ) → t ≤ s → s < t + n → f x s ≡ g x s) → sign_readings f N t n ≡ sign_readings g N t n
  unfolding sign_readings
  readings_as N t zero h = refl
  readings_as N t (suc n) h =
      ap₂ (λ (k l : List Span). k ++ l) (tick_as t 0 N (λ y l i. h y (omega arith) t (omega arith) (omega arith))) (readings_as N (suc t) n (λ x i s l j. h x i s (omega arith) (omega arith)))

-- ---- one sign

-- The reading of a sign has its signal and its tick, and its value is the sign's.
pub record ReadingOf (x t b : ℕ) (e : Span) : Type 0 where
  pub of_signal : e.signal ≡ x
  pub starts : e.first ≡ t
  pub ends : e.last ≡ t
  pub says : b ≡ value_sign e.value

of_reading : (x t b : ℕ) {e : Span} → Memᴰ e (reading_of x t b) → ReadingOf x t b e
unfolding reading_of
of_reading x t b {e} i = go (eqb b (byte "0")) (eqb b (byte "1")) refl refl i
  where
    one : (v : Bool) → b ≡ value_sign v → e ≡ span x v t t → ReadingOf x t b e
    one v h z = subst (ReadingOf x t b) (sym z) (record { of_signal = refl; starts = refl; ends = refl; says = h })

    go : (c d : Bool) → eqb b (byte "0") ≡ c → eqb b (byte "1") ≡ d → Memᴰ e (pick c (λ _. span x false t t ∷ []) (pick d (λ _. span x true t t ∷ []) [])) → ReadingOf x t b e
    go true d h k j = one false (eqb-true b (byte "0") h) (Memᴰ.eq_of_singleton j)
    go false true h k j = one true (eqb-true b (byte "1") k) (Memᴰ.eq_of_singleton j)
    go false false h k j = absurd (Memᴰ.not-nil j)

in_reading : (x t b : ℕ) (v : Bool) → b ≡ value_sign v → Memᴰ (span x v t t) (reading_of x t b)
unfolding reading_of
in_reading x t b true h = rw h (Memᴰ.head refl)
in_reading x t b false h = rw h (Memᴰ.head refl)

-- Readings in order followed by readings in order are in order, where each of the former comes before each of the latter;
by_tick_append : (es ds : List Span) → ByTick es → ByTick ds → ((a b : Span) → Memᴰ a es → Memᴰ b ds → Earlier a b) → ByTick (es ++ ds)
unfolding ByTick
by_tick_append [] ds p q h = q
by_tick_append (e ∷ es) ds p q h =
    (all_append (Earlier e) es ds p.0 (all_of_lem (Earlier e) ds (λ b j. h e b (Memᴰ.head refl) j)), by_tick_append es ds p.1 q (λ a b i j. h a b (Memᴰ.tail i) j))

-- and so is the one reading of a sign, if it has one.
by_tick_one : (x t b : ℕ) → ByTick (reading_of x t b)
unfolding reading_of ByTick
by_tick_one x t b = go (eqb b (byte "0")) (eqb b (byte "1"))
  where
    go : (c d : Bool) → ByTick (pick c (λ _. span x false t t ∷ []) (pick d (λ _. span x true t t ∷ []) []))
    go true d = (tt, tt)
    go false true = (tt, tt)
    go false false = tt

-- The entry e has one tick, and its value is its signal's sign there.
pub record Told (f : ℕ → ℕ → ℕ) (e : Span) : Type 0 where
  pub single : e.first ≡ e.last
  pub says : f e.signal e.first ≡ value_sign e.value

module _ (f : ℕ → ℕ → ℕ) where
  -- ---- which they are

  -- At one tick, of n signals from x on.
  of_tick : (t x n : ℕ) {e : Span} → Memᴰ e (readings_at f t x n) → Told f e × (x ≤ e.signal) × (e.signal < x + n) × (e.first ≡ t)
  unfolding readings_at
  of_tick t x zero i = absurd (Memᴰ.not-nil i)
  of_tick t x (suc n) {e} i = ⊎_elim here (λ j. let k = of_tick t (suc x) n j in (k.0, omega (arith, k.1), omega (arith, k.2), k.3)) (Memᴰ.append_cases (reading_of x t (f x t)) i)
    where
      here : Memᴰ e (reading_of x t (f x t)) → Told f e × (x ≤ e.signal) × (e.signal < x + suc n) × (e.first ≡ t)
      here j =
          let k = of_reading x t (f x t) j in
          (record { single = k.starts ∙ sym k.ends; says = ap₂ f k.of_signal k.starts ∙ k.says }, omega (arith, k.of_signal), omega (arith, k.of_signal), k.starts)

  in_tick : (t x n y : ℕ) (v : Bool) → x ≤ y → y < x + n → f y t ≡ value_sign v → Memᴰ (span y v t t) (readings_at f t x n)
  unfolding readings_at
  in_tick t x zero y v l h e = absurd (omega arith)
  in_tick t x (suc n) y v l h e = go (dec_lt x y) (λ k. in_tick t (suc x) n y v k (omega arith) e)
    where
      go : Dec (x < y) → (suc x ≤ y → Memᴰ (span y v t t) (readings_at f t (suc x) n)) → Memᴰ (span y v t t) (reading_of x t (f x t) ++ readings_at f t (suc x) n)
      go (yes k) r = Memᴰ.append_right (reading_of x t (f x t)) (r (omega arith))
      go (no k) r = let z : x ≡ y = omega arith in Memᴰ.append_left {s = reading_of x t (f x t)} (readings_at f t (suc x) n) (rw z (in_reading y t (f y t) v e))

  -- A reading is one of a sign of these signals at these ticks, and each of these signs that is 0 or 1 has its reading.
  pub of_readings : (N t n : ℕ) {e : Span} → Memᴰ e (sign_readings f N t n) → Told f e × (e.signal < N) × (t ≤ e.first) × (e.first < t + n)
  unfolding sign_readings
  of_readings N t zero i = absurd (Memᴰ.not-nil i)
  of_readings N t (suc n) {e} i = ⊎_elim here (λ j. let k = of_readings N (suc t) n j in (k.0, k.1, omega (arith, k.2), omega (arith, k.3))) (Memᴰ.append_cases (readings_at f t 0 N) i)
    where
      here : Memᴰ e (readings_at f t 0 N) → Told f e × (e.signal < N) × (t ≤ e.first) × (e.first < t + suc n)
      here j = let k = of_tick t 0 N j in (k.0, omega (arith, k.2), omega (arith, k.3), omega (arith, k.3))

  pub in_readings : (N t n x s : ℕ) (v : Bool) → x < N → t ≤ s → s < t + n → f x s ≡ value_sign v → Memᴰ (span x v s s) (sign_readings f N t n)
  unfolding sign_readings
  in_readings N t zero x s v i l h e = absurd (omega arith)
  in_readings N t (suc n) x s v i l h e = go (dec_lt t s) (λ k. in_readings N (suc t) n x s v i k (omega arith) e)
    where
      go : Dec (t < s) → (suc t ≤ s → Memᴰ (span x v s s) (sign_readings f N (suc t) n)) → Memᴰ (span x v s s) (readings_at f t 0 N ++ sign_readings f N (suc t) n)
      go (yes k) r = Memᴰ.append_right (readings_at f t 0 N) (r (omega arith))
      go (no k) r = let z : t ≡ s = omega arith in Memᴰ.append_left {s = readings_at f t 0 N} (sign_readings f N (suc t) n) (rw z (in_tick s 0 N x v (omega arith) (omega arith) e))

  -- Every reading has one tick,
  pub reading_single : (N t n : ℕ) {e : Span} → Memᴰ e (sign_readings f N t n) → e.first ≡ e.last
  reading_single N t n i = (of_readings N t n i).0.single

  -- and "each 0 or 1 at a tick" of the window is read, nothing else.
  pub reading_in : (N W x t : ℕ) (v : Bool) → Memᴰ (span x v t t) (sign_readings f N 0 W) ↔ ((x < N) × (t < W) × (f x t ≡ value_sign v))
  reading_in N W x t v = (
    λ i. let k = of_readings N 0 W i in (k.1, omega (arith, k.3), k.0.says),
    λ k. in_readings N 0 W x t v k.0 (omega arith) (omega (arith, k.1)) k.2,
  )

  -- ---- their order

  tick_in_order : (t x n : ℕ) → ByTick (readings_at f t x n)
  unfolding readings_at ByTick
  tick_in_order t x zero = tt
  tick_in_order t x (suc n) =
      by_tick_append (reading_of x t (f x t)) (readings_at f t (suc x) n) (by_tick_one x t (f x t)) (tick_in_order t (suc x) n)
      (λ a b i j. let k = of_reading x t (f x t) i in let l = of_tick t (suc x) n j in inr (k.starts ∙ sym l.3, omega (arith, k.of_signal, l.1)))

  -- "By tick, then signal", so each once.
  pub readings_in_order : (N t n : ℕ) → ByTick (sign_readings f N t n)
  unfolding sign_readings ByTick
  readings_in_order N t zero = tt
  readings_in_order N t (suc n) =
      by_tick_append (readings_at f t 0 N) (sign_readings f N (suc t) n) (tick_in_order t 0 N) (readings_in_order N (suc t) n)
      (λ a b i j. let k = of_tick t 0 N i in let l = of_readings N (suc t) n j in inl (omega (arith, k.3, l.2)))

  -- ---- their marks

  -- They mark just what the signs say.
  pub reading_marks : (N W x t : ℕ) (v : Bool) → ReadMarks (marks_of_all (sign_readings f N 0 W)) (mark x t v) ↔ ((x < N) × (t < W) × (f x t ≡ value_sign v))
  reading_marks N W x t v = (
    λ i. let o = in_one (sign_readings f N 0 W) i in
        let c = of_span o.entry o.marked in
        let k = of_readings N 0 W o.among in
        let at : t ≡ o.entry.first = omega (arith, c.2, c.3, k.0.single) in
        (omega (arith, c.0, k.1), omega (arith, k.3), ap₂ f c.0 at ∙ k.0.says ∙ ap value_sign (sym c.1)),
    λ k. one_in (sign_readings f N 0 W) ((reading_in N W x t v).1 k) (in_span (span x v t t) (refl, refl, omega arith, omega arith)),
  )
