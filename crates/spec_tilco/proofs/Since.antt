-- What since and until mean: by one tick's step, and over k ticks in the words of document 004, section 2.1.
-- Assumes nothing.
use mathlib.Core.Path.{◌≡◌, refl, sym, ◌∙◌, ap}
use mathlib.Core.Logic.{inl, inr, ⊎_elim, ◌↔◌}
use mathlib.Core.Bool.{Bool, true, false, ◌&&◌, ◌||◌}
use mathlib.Core.List.Memᴰ
use mathlib.Core.List.{List, [], ◌∷◌, ◌++◌, Memᴰ}
use Prim.Native.Nat.{ℕ, zero, suc, ◌+◌, ◌-◌, ◌<◌, ◌≤◌}
use native.Mathlib.Nat.{add-zero}
use native.Mathlib.Decide.{dec_le}
use native.Mathlib.Omega.{arith}
use lib.IntN.{ℤ, pos, negsuc, neg_ℤ, ◌+ℤ◌, ◌-ℤ◌, +ℤ_assoc, +ℤ_idr, +ℤ-neg_ℤ_cancel}
use Rattle.spec_tilco.specs.Lists.{total, laid}
use Rattle.spec_tilco.specs.Formula.{Iff, Written, Formula, hiddens, over_signals, step_of, defining, definings, spelled, Sheet, signal_rows}
use Rattle.spec_tilco.specs.Meaning.{History, at_offset, op_of, value, Obeys}
use Rattle.spec_tilco.specs.Since.{away, a_or_bAnd_x, AtEvery, AllAlong, KeptOver, Hides, Inside}
use Rattle.spec_tilco.proofs.Values.{both_left, both_right, of_both, of_left, of_right, either_side}

-- ---- ticks

-- The step of since and until goes to the next tick.
step_away : (b : Bool) (t : ℤ) → at_offset t (step_of b) ≡ away b t 1
step_away true t = +ℤ_assoc t (pos 63) (neg_ℤ (pos 64))
step_away false t = +ℤ_assoc t (pos 65) (neg_ℤ (pos 64))

away_none : (b : Bool) (t : ℤ) → away b t 0 ≡ t
away_none true t = +ℤ_idr t
away_none false t = +ℤ_idr t

-- One more back.
less_more : (k : ℕ) → neg_ℤ (pos k) +ℤ neg_ℤ (pos 1) ≡ neg_ℤ (pos (suc k))
less_more zero = refl
less_more (suc n) = ap (λ (m : ℕ). negsuc (suc m)) (add-zero n)

away_more : (b : Bool) (t : ℤ) (k : ℕ) → away b (away b t k) 1 ≡ away b t (suc k)
away_more true t k = +ℤ_assoc t (neg_ℤ (pos k)) (neg_ℤ (pos 1)) ∙ ap (λ (z : ℤ). t +ℤ z) (less_more k)
away_more false t k = let e : k + 1 ≡ suc k = omega arith in +ℤ_assoc t (pos k) (pos 1) ∙ ap (λ (n : ℕ). t +ℤ pos n) e

-- ---- one step

iff_same : (x y : Bool) → op_of Iff x y ≡ true → x ≡ y
iff_same true true h = refl
iff_same true false h = sym h
iff_same false true h = h
iff_same false false h = refl

module _ (b : Bool) (h : History) (x : ℕ) (f g : Formula) where
  step_means : (t : ℤ) → value h (defining b x f g) t ≡ true → h x t ≡ a_or_bAnd_x h x f g (away b t 1)
  step_means t d = iff_same _ _ d ∙ ap (a_or_bAnd_x h x f g) (step_away b t)

module _ (h : History) (x : ℕ) (f g : Formula) (t : ℤ) where
  -- since(A,B) is what A, or B with since(A,B), was a tick before.
  pub since_means : value h (defining true x f g) t ≡ true → h x t ≡ value h f (t -ℤ pos 1) || (value h g (t -ℤ pos 1) && h x (t -ℤ pos 1))
  since_means = step_means true h x f g t

  -- until(A,B) is what A, or B with until(A,B), is a tick after.
  pub until_means : value h (defining false x f g) t ≡ true → h x t ≡ value h f (t +ℤ pos 1) || (value h g (t +ℤ pos 1) && h x (t +ℤ pos 1))
  until_means = step_means false h x f g t

-- ---- k steps

module _ (b : Bool) (h : History) (x : ℕ) (f g : Formula) where
  -- The defining rule is true at t and at the k - 1 earlier ticks.
  abbrev TrueOver : ℤ → ℕ → Type 0
  TrueOver t k = (i : ℕ) → i < k → value h (defining b x f g) (away b t i) ≡ true

  step_on : (t : ℤ) (k : ℕ) → TrueOver t (suc k) → h x (away b t k) ≡ a_or_bAnd_x h x f g (away b t (suc k))
  step_on t k d = step_means b h x f g (away b t k) (d k (omega arith)) ∙ ap (a_or_bAnd_x h x f g) (away_more b t k)

  longer : (t : ℤ) (k : ℕ) → AtEvery b h g t k → value h g (away b t (suc k)) ≡ true → AtEvery b h g t (suc k)
  longer t k e y i l = go (dec_le (suc i) k)
    where
      go : Dec (i < k) → value h g (away b t (suc i)) ≡ true
      go (yes m) = e i m
      go (no m) = let z : i ≡ k = omega arith in ap (λ (n : ℕ). value h g (away b t (suc n))) z ∙ y

  -- Where x stood at the k-th earlier tick, A or B with x stood at the next.
  next_back : (t : ℤ) (k : ℕ) → TrueOver t (suc k) → AllAlong b h x g t k → KeptOver b h x f g t (suc k)
  next_back t k d a =
      let n = away b t (suc k) in
      ⊎_elim (λ y. inl (k, omega arith, y, a.0))
      (λ y. inr (longer t k a.0 (both_left true (value h g n) (h x n) y), both_right true (value h g n) (h x n) y))
      (either_side false (value h f n) (value h g n && h x n) (sym (step_on t k d) ∙ a.1))

  kept_back : (k : ℕ) (t : ℤ) → TrueOver t k → h x t ≡ true → KeptOver b h x f g t k
  kept_back zero t d e = inr (λ i l. absurd (omega arith), ap (h x) (away_none b t) ∙ e)
  kept_back (suc k) t d e =
      ⊎_elim (λ s. inl (s.0, omega (arith, s.1), s.2, s.3)) (next_back t k d) (kept_back k t (λ i l. d i (omega arith)) e)

  -- And where A or B with x stood, x stood a tick on.
  next_on : (t : ℤ) (k : ℕ) → TrueOver t (suc k) → KeptOver b h x f g t (suc k) → KeptOver b h x f g t k
  next_on t k d (inr a) =
      inr (λ i l. a.0 i (omega arith), step_on t k d ∙ of_right false (value h f (away b t (suc k))) _ (of_both true _ _ (a.0 k (omega arith)) a.1))
  next_on t k d (inl s) = go (dec_le (suc s.0) k)
    where
      go : Dec (s.0 < k) → KeptOver b h x f g t k
      go (yes m) = inl (s.0, m, s.2, s.3)
      go (no m) =
          let z : s.0 ≡ k = omega (arith, s.1) in
          inr (λ i l. s.3 i (omega arith), step_on t k d ∙ of_left false _ _ (ap (λ (n : ℕ). value h f (away b t (suc n))) (sym z) ∙ s.2))

  kept_on : (k : ℕ) (t : ℤ) → TrueOver t k → KeptOver b h x f g t k → h x t ≡ true
  kept_on zero t d (inl s) = absurd (omega (arith, s.1))
  kept_on zero t d (inr a) = ap (h x) (sym (away_none b t)) ∙ a.1
  kept_on (suc k) t d e = kept_on k t (λ i l. d i (omega arith)) (next_on t k d e)

-- ---- every hidden signal is a since's or an until's

-- Among these rules is the one that defines y.
abbrev DefinedIn : ℕ → List Formula → Type 0
DefinedIn y fs = (b : Bool) × (f : Formula) × (g : Formula) × Memᴰ (defining b y f g) fs

-- Where y is below n it is in the first list, else in the second.
in_two : (n y : ℕ) (fs gs : List Formula) → (y < n → DefinedIn y fs) → (n ≤ y → DefinedIn y gs) → DefinedIn y (fs ++ gs)
in_two n y fs gs p q = go (dec_le (suc y) n)
  where
    left : DefinedIn y fs → DefinedIn y (fs ++ gs)
    left d = (d.0, d.1, d.2, Memᴰ.append_left gs d.3)

    right : DefinedIn y gs → DefinedIn y (fs ++ gs)
    right d = (d.0, d.1, d.2, Memᴰ.append_right fs d.3)

    go : Dec (y < n) → DefinedIn y (fs ++ gs)
    go (yes l) = left (p l)
    go (no l) = right (q (omega arith))

-- Its own rule first, then those in the arguments.
in_own : (b : Bool) (x y : ℕ) (f g : Formula) (fs : List Formula) → x ≤ y → (suc x ≤ y → DefinedIn y fs) → DefinedIn y (defining b x f g ∷ fs)
in_own b x y f g fs l q = go (dec_le (suc x) y)
  where
    later : DefinedIn y fs → DefinedIn y (defining b x f g ∷ fs)
    later d = (d.0, d.1, d.2, Memᴰ.tail d.3)

    go : Dec (x < y) → DefinedIn y (defining b x f g ∷ fs)
    go (yes k) = later (q k)
    go (no k) = let e : y ≡ x = omega arith in (b, f, g, Memᴰ.head (ap (λ (z : ℕ). defining b z f g) e))

defined_in : (x y : ℕ) (w : Written) → x ≤ y → y < x + hiddens w → DefinedIn y (definings x w)
defined_in x y (Written.name z) l m = absurd (omega arith)
defined_in x y (Written.neg f) l m = defined_in x y f l m
defined_in x y (Written.pair o f g) l m =
    in_two (x + hiddens f) y (definings x f) (definings (x + hiddens f) g) (defined_in x y f l) (λ k. defined_in (x + hiddens f) y g k (omega arith))
defined_in x y (Written.time u lo n f) l m = defined_in x y f l m
defined_in x y (Written.keep b f g) l m =
    in_own b x y (over_signals (suc x) f) (over_signals (suc x + hiddens f) g) (definings (suc x) f ++ definings (suc x + hiddens f) g) l
    (λ j. in_two (suc x + hiddens f) y (definings (suc x) f) (definings (suc x + hiddens f) g) (defined_in (suc x) y f j) (λ k. defined_in (suc x + hiddens f) y g k (omega arith)))

defined_among : (x y : ℕ) (ws : List Written) → x ≤ y → y < x + total hiddens ws → DefinedIn y (laid hiddens spelled ws x)
defined_among x y [] l m = absurd (omega arith)
defined_among x y (w ∷ ws) l m =
    in_two (x + hiddens w) y (spelled w x) (laid hiddens spelled ws (x + hiddens w))
    (λ k. let d = defined_in x y w l k in (d.0, d.1, d.2, Memᴰ.tail d.3))
    (λ k. defined_among (x + hiddens w) y ws k (omega arith))

-- Every hidden signal of a sheet is that of a since or an until.
pub hidden_hides : (s : Sheet) (x : ℕ) → s.signals ≤ x → x < signal_rows s → (b : Bool) × (f : Formula) × (g : Formula) × Hides s b x f g
hidden_hides s x = defined_among s.signals x s.rules

-- ---- in a history that obeys the sheet

-- The k ticks inside the window are ticks from 0 on.
inside_tick : (b : Bool) (w t k i : ℕ) → Inside b w t k → i < k → (n : ℕ) × (n < w) × (away b (pos t) i ≡ pos n)
inside_tick true w t k i e l = (t - i, omega (arith, e.0), back)
  where
    back : pos t -ℤ pos i ≡ pos (t - i)
    back = let z : t ≡ t - i + i = omega (arith, e.1) in ap (λ (n : ℕ). pos n -ℤ pos i) z ∙ +ℤ-neg_ℤ_cancel (pos (t - i)) (pos i)
inside_tick false w t k i e l = (t + i, omega (arith, e), refl)

module _ (s : Sheet) (h : History) (obeys : Obeys s h) (b : Bool) (x : ℕ) (f g : Formula) (hidden : Hides s b x f g) where
  -- At a tick t of the window, x is what A or (B and x) was a tick before (since), or is a tick after (until).
  pub keep_means : (t : ℕ) → t < s.window → h x (pos t) ≡ a_or_bAnd_x h x f g (away b (pos t) 1)
  keep_means t l = step_means b h x f g (pos t) (obeys (defining b x f g) hidden t l)

  -- A | B & since(A,B) takes in the present tick: it goes by the recursion of document 004, section 4.1.
  pub with_now : (t : ℕ) → t < s.window → a_or_bAnd_x h x f g (pos t) ≡ value h f (pos t) || (value h g (pos t) && a_or_bAnd_x h x f g (away b (pos t) 1))
  with_now t l = ap (λ (y : Bool). value h f (pos t) || (value h g (pos t) && y)) (keep_means t l)

  over_window : (t k : ℕ) → Inside b s.window t k → TrueOver b h x f g (pos t) k
  over_window t k e i l =
      let n = inside_tick b s.window t k i e l in
      ap (λ (z : ℤ). value h (defining b x f g) z) n.2 ∙ obeys (defining b x f g) hidden n.0 n.1

  -- "A at some earlier tick and B at every tick between, or B at every earlier tick", over k ticks inside the window: x is true at t exactly if A is at some
  -- earlier tick of the k and B at every tick between, or B at every one of the k and x at the first.
  pub keep_unrolled : (t k : ℕ) → Inside b s.window t k → (h x (pos t) ≡ true) ↔ KeptOver b h x f g (pos t) k
  keep_unrolled t k e = (kept_back b h x f g k (pos t) (over_window t k e), kept_on b h x f g k (pos t) (over_window t k e))
