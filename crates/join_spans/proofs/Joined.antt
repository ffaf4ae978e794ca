-- Ascending spans joined: they are in order, and have the marks that the spans had.
-- Assumes nothing.
use mathlib.Core.Path.{◌≡◌, refl}
use mathlib.Core.Bool.{Bool, true, false, ◌&&◌, true≢false, and-eq-true_iff}
use mathlib.Core.List.{List, [], ◌∷◌}
use mathlib.Core.Logic.{◌⊎◌, inl, inr, ⊎_elim}
use Prim.Native.Nat.{ℕ, ◌+◌, ◌<◌, ◌≤◌}
use native.Mathlib.Omega.{arith}
use native.Mathlib.Decide.{dec_lt}
use borrow.Author.Tests.{ltb-true, ltb-false, leb-true, leb-false, eqb-true, eqb-false}
use lib.Dec.{leb, ltb, eqb}
use Rattle.spec_tilco.specs.Lists.{All}
use Rattle.spec_tilco.proofs.Lists.{all_weaker}
use Rattle.read_bytes.specs.Bytes.{pick}
use Rattle.read_reading.specs.Spans.{Span, marks_of_all}
use Rattle.spec_moves.specs.InOrder.{rank, Before, Sorted, Shaped, InOrder, SameMarks}
use Rattle.spec_moves.proofs.Ranks.{Has, Marked, here, later, MarksIn, ranks_same}
use Rattle.join_spans.specs.Joining.{Ascends, Ascending, meets, grown, joined, merged}

-- ---- each step

-- Spans that meet are taken as one,
pub joined_meets : (c e : Span) (es : List Span) → meets c e ≡ true → joined c (e ∷ es) ≡ joined (grown c e) es
unfolding joined
joined_meets c e es m = rw m

-- and one that meets no later one is left as it is.
pub joined_apart : (c e : Span) (es : List Span) → meets c e ≡ false → joined c (e ∷ es) ≡ c ∷ joined e es
unfolding joined
joined_apart c e es m = rw m

-- Two spans that meet.
pub record Meets (c e : Span) : Type 0 where
  pub row : rank c ≡ rank e
  pub near : e.first ≤ c.last + 1

pub meets_true : (c e : Span) → meets c e ≡ true → Meets c e
unfolding meets
meets_true c e m =
    let w = (and-eq-true_iff (eqb (rank c) (rank e)) (leb e.first (c.last + 1))).0 m in
    record { row = eqb-true (rank c) (rank e) w.0; near = leb-true e.first (c.last + 1) w.1 }

-- Of two ascending spans that do not meet, the first comes before the second, with a tick between them.
pub meets_false : (c e : Span) → meets c e ≡ false → Ascends c e → Before 1 c e
unfolding meets
meets_false c e m (inl l) = inl l
meets_false c e m (inr k) = go (eqb (rank c) (rank e)) refl (leb e.first (c.last + 1)) refl m
  where
    go : (a : Bool) → eqb (rank c) (rank e) ≡ a → (b : Bool) → leb e.first (c.last + 1) ≡ b → (a && b) ≡ false → Before 1 c e
    go true i true j f = absurd (true≢false f)
    go true i false j f = inr (k.0, leb-false e.first (c.last + 1) j)
    go false i b j f = absurd (eqb-false (rank c) (rank e) i k.0)

-- What comes after a span that comes later comes later.
pub before_ascends : (g : ℕ) (c e : Span) → Before g c e → (d : Span) → Ascends e d → Before g c d
before_ascends g c e (inl l) d (inl m) = inl (omega arith)
before_ascends g c e (inl l) d (inr m) = inl (omega arith)
before_ascends g c e (inr l) d (inl m) = inl (omega arith)
before_ascends g c e (inr l) d (inr m) = inr (omega arith, omega arith)

-- ---- a span grown by another

-- m is the larger of a and b.
record Larger (a b m : ℕ) : Type 0 where
  left : a ≤ m
  right : b ≤ m
  one : (t : ℕ) → t ≤ m → (t ≤ a) ⊎ (t ≤ b)

larger : (a b : ℕ) → Larger a b (pick (ltb a b) (λ _. b) a)
larger a b = go (ltb a b) refl
  where
    go : (x : Bool) → ltb a b ≡ x → Larger a b (pick x (λ _. b) a)
    go true e = record { left = omega (arith, ltb-true a b e); right = omega arith; one = λ t h. inr h }
    go false e = record { left = omega arith; right = ltb-false a b e; one = λ t h. inl h }

module _ (c e : Span) where
  grown_last : Larger c.last e.last (grown c e).last
  unfolding grown
  grown_last = larger c.last e.last

  grown_shaped : Shaped true c → Shaped true (grown c e)
  unfolding grown
  grown_shaped s = omega (arith, s, grown_last.left)

  -- It starts where c does, in c's row: what comes after c or before it does so still.
  grown_ascends : (d : Span) → Ascends c d → Ascends (grown c e) d
  unfolding grown
  grown_ascends d a = a

  grown_before : (g : ℕ) (d : Span) → Before g d c → Before g d (grown c e)
  unfolding grown
  grown_before g d b = b

  -- It has the ticks of both,
  grown_first : {r t : ℕ} → Has c r t → Has (grown c e) r t
  unfolding grown
  grown_first h = record { row = h.row; starts = h.starts; ends = omega (arith, h.ends, grown_last.left) }

  grown_second : {r t : ℕ} → Meets c e → c.first ≤ e.first → Has e r t → Has (grown c e) r t
  unfolding grown
  grown_second m l h = record { row = omega (arith, m.row, h.row); starts = omega (arith, h.starts); ends = omega (arith, h.ends, grown_last.right) }

  -- and no others.
  grown_only : {r t : ℕ} → Meets c e → Has (grown c e) r t → Has c r t ⊎ Has e r t
  unfolding grown
  grown_only {r} {t} m h = go (dec_lt c.last t)
    where
      go : Dec (c.last < t) → Has c r t ⊎ Has e r t
      go (no l) = inl (record { row = h.row; starts = h.starts; ends = omega arith })
      go (yes l) =
          inr (record { row = omega (arith, m.row, h.row); starts = omega (arith, m.near); ends = ⊎_elim (λ k. absurd (omega arith)) (λ k. k) (grown_last.one t h.ends) })

-- ---- all of them

-- Ascending spans of one row start one after the other.
starts_later : (c e : Span) → Meets c e → Ascends c e → c.first ≤ e.first
starts_later c e m (inl l) = absurd (omega arith)
starts_later c e m (inr k) = k.1

-- What holds of the spans, and of a span still when it has grown, holds of the joined ones.
joined_all : (P : Span → Type 0) → ((c e : Span) → P c → P (grown c e)) → (c : Span) (es : List Span) → P c → All P es → All P (joined c es)
unfolding joined
joined_all P f c [] p a = (p, tt)
joined_all P f c (e ∷ es) p a = go (meets c e) (joined_all P f (grown c e) es (f c e p) a.1) (joined_all P f e es a.0 a.1)
  where
    go : (b : Bool) → All P (joined (grown c e) es) → All P (joined e es) → All P (pick b (λ _. joined (grown c e) es) (c ∷ joined e es))
    go true x y = x
    go false x y = (p, y)

-- Each joined span comes before every later one.
joined_sorted : (c : Span) (es : List Span) → All (Ascends c) es → Ascending es → Sorted 1 (joined c es)
unfolding joined Sorted Ascending
joined_sorted c [] a s = (tt, tt)
joined_sorted c (e ∷ es) a s =
    go (meets c e) refl (joined_sorted (grown c e) es (all_weaker (Ascends c) (Ascends (grown c e)) (grown_ascends c e) es a.1) s.1) (joined_sorted e es s.0 s.1)
  where
    go : (b : Bool) → meets c e ≡ b → Sorted 1 (joined (grown c e) es) → Sorted 1 (joined e es) → Sorted 1 (pick b (λ _. joined (grown c e) es) (c ∷ joined e es))
    go true m x y = x
    go false m x y =
        let b = meets_false c e m a.0 in
        (joined_all (Before 1 c) (λ d z. grown_before d z 1 c) e es b (all_weaker (Ascends e) (Before 1 c) (before_ascends 1 c e b) es s.0), y)

-- The joined spans have the marks that the spans had, and no others.
joined_marks : (c : Span) (es : List Span) → All (Ascends c) es → Ascending es → MarksIn (joined c es) (c ∷ es) × MarksIn (c ∷ es) (joined c es)
unfolding joined Ascending
joined_marks c [] a s = (λ r t m. m, λ r t m. m)
joined_marks c (e ∷ es) a s =
    go (meets c e) refl (joined_marks (grown c e) es (all_weaker (Ascends c) (Ascends (grown c e)) (grown_ascends c e) es a.1) s.1) (joined_marks e es s.0 s.1)
  where
    apart : {r t : ℕ} → Meets c e → Marked r t (grown c e ∷ es) → Marked r t (c ∷ e ∷ es)
    apart m (here h) = ⊎_elim (λ x. here x) (λ x. later (here x)) (grown_only c e m h)
    apart m (later x) = later (later x)

    together : {r t : ℕ} → Meets c e → Marked r t (c ∷ e ∷ es) → Marked r t (grown c e ∷ es)
    together m (here h) = here (grown_first c e h)
    together m (later (here h)) = here (grown_second c e m (starts_later c e m a.0) h)
    together m (later (later x)) = later x

    behind : {r t : ℕ} (xs ys : List Span) → MarksIn xs ys → Marked r t (c ∷ xs) → Marked r t (c ∷ ys)
    behind xs ys f (here h) = here h
    behind {r} {t} xs ys f (later x) = later (f r t x)

    go : (b : Bool) → meets c e ≡ b → MarksIn (joined (grown c e) es) (grown c e ∷ es) × MarksIn (grown c e ∷ es) (joined (grown c e) es)
        → MarksIn (joined e es) (e ∷ es) × MarksIn (e ∷ es) (joined e es)
        → MarksIn (pick b (λ _. joined (grown c e) es) (c ∷ joined e es)) (c ∷ e ∷ es) × MarksIn (c ∷ e ∷ es) (pick b (λ _. joined (grown c e) es) (c ∷ joined e es))
    go true m x y = let z = meets_true c e m in (λ r t i. apart z (x.0 r t i), λ r t i. x.1 r t (together z i))
    go false m x y = (λ r t i. behind (joined e es) (e ∷ es) y.0 i, λ r t i. behind (e ∷ es) (joined e es) y.1 i)

-- ---- the merged spans

-- Ascending spans, merged, are in order,
pub merged_in_order : (es : List Span) → Ascending es → All (Shaped true) es → InOrder true (merged es)
unfolding merged Sorted Ascending
merged_in_order [] a s = record { shaped = tt; sorted = tt }
merged_in_order (e ∷ es) a s = record {
  shaped = joined_all (Shaped true) grown_shaped e es s.0 s.1;
  sorted = joined_sorted e es a.0 a.1;
}

-- and have the marks that they had.
pub merged_marks : (es : List Span) → Ascending es → SameMarks (marks_of_all (merged es)) (marks_of_all es)
unfolding merged Ascending
merged_marks [] a = ranks_same [] [] (λ r t m. m) (λ r t m. m)
merged_marks (e ∷ es) a = let x = joined_marks e es a.0 a.1 in ranks_same (joined e es) (e ∷ es) x.0 x.1
