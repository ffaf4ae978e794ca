-- The spans that a move writes are the fewest for their marks. Of any spans with the same marks one at least lies inside the first written span; those
-- that do not have the marks of the other written spans.
-- Assumes nothing.
use mathlib.Core.Path.{◌≡◌}
use mathlib.Core.Bool.{true}
use mathlib.Core.List.{List, [], ◌∷◌, Memᴰ}
use mathlib.Core.Logic.{◌⊎◌, inl, inr, ⊎_elim}
use Prim.Native.Nat.{ℕ, ◌<◌, ◌≤◌}
use native.Mathlib.Omega.{arith}
use native.Mathlib.Decide.{dec_lt}
use lib.ListN.{length}
use Rattle.spec_tilco.specs.Lists.{All}
use Rattle.spec_tilco.proofs.Lists.{all_of_lem, all_at}
use Rattle.read_reading.specs.Spans.{Span, marks_of_all}
use Rattle.spec_moves.specs.InOrder.{rank, Before, Sorted, Shaped, InOrder, SameMarks}
use Rattle.spec_moves.proofs.Ranks.{Has, Marked, here, later, not_marked, MarksIn, entry_marked, same_ranks, same_back}
use Rattle.spec_moves.proofs.FirstEntry.{has_first, later_past, not_past, NotBefore, from_first, ends_inside}

-- ---- a span beside the first of the written ones

-- d lies inside e.
record Inside (e d : Span) : Type 0 where
  row : rank d ≡ rank e
  starts : e.first ≤ d.first
  ends : d.last ≤ e.last

-- d and e have no tick of one row.
record Outside (e d : Span) : Type 0 where
  never : (r t : ℕ) → Has d r t → Has e r t → ⊥

-- A span whose ticks are all marked in the list lies inside the first or outside it: it starts no earlier, and the tick after the first is not marked.
inside_or_out : (e d : Span) (es : List Span) → e.first ≤ e.last → d.first ≤ d.last → All (Before 1 e) es
    → ((r t : ℕ) → Has d r t → Marked r t (e ∷ es)) → Inside e d ⊎ Outside e d
inside_or_out e d es o q a f = go (dec_lt (rank d) (rank e)) (dec_lt (rank e) (rank d)) (dec_lt d.first e.first) (dec_lt e.last d.first)
  where
    too_early : NotBefore e (rank d) d.first → rank d ≡ rank e → d.first < e.first → ⊥
    too_early (inl k) r l = omega arith
    too_early (inr k) r l = omega arith

    go : Dec (rank d < rank e) → Dec (rank e < rank d) → Dec (d.first < e.first) → Dec (e.last < d.first) → Inside e d ⊎ Outside e d
    go (yes k) _ _ _ = inr (record { never = λ r t h i. omega (arith, h.row, i.row) })
    go (no k) (yes l) _ _ = inr (record { never = λ r t h i. omega (arith, h.row, i.row) })
    go (no k) (no l) (yes m) _ =
        absurd (too_early (from_first 1 e es o a (f (rank d) d.first (has_first d q))) (omega arith) m)
    go (no k) (no l) (no m) (yes n) = inr (record { never = λ r t h i. omega (arith, h.starts, i.ends) })
    go (no k) (no l) (no m) (no n) =
        let r : rank d ≡ rank e = omega arith in
        inl (record { row = r; starts = omega arith; ends = ends_inside e d es r (omega arith) a (λ t h. f (rank e) t h) })

-- ---- the spans outside the first

-- Those of the spans ds that lie outside e: they have the marks of ds that are not e's, and are fewer than ds where ds has a mark of e's.
record Rest (e : Span) (ds : List Span) : Type 0 where
  spans : List Span
  shaped : All (Shaped true) spans
  marks : MarksIn spans ds
  outside : (r t : ℕ) → Marked r t spans → Has e r t → ⊥
  covered : (r t : ℕ) → Marked r t ds → Has e r t ⊎ Marked r t spans
  not_more : length spans ≤ length ds
  fewer : (r t : ℕ) → Marked r t ds → Has e r t → length spans < length ds

-- A span inside e is left out,
rest_in : (e d : Span) (ds : List Span) → Inside e d → Rest e ds → Rest e (d ∷ ds)
rest_in e d ds i x = record {
  spans = x.spans;
  shaped = x.shaped;
  marks = λ r t m. later (x.marks r t m);
  outside = x.outside;
  covered = cover;
  not_more = omega (arith, x.not_more);
  fewer = λ r t m h. omega (arith, x.not_more);
}
  where
    cover : (r t : ℕ) → Marked r t (d ∷ ds) → Has e r t ⊎ Marked r t x.spans
    cover r t (here h) = inl (record { row = omega (arith, h.row, i.row); starts = omega (arith, h.starts, i.starts); ends = omega (arith, h.ends, i.ends) })
    cover r t (later m) = x.covered r t m

-- and one outside it is kept.
rest_out : (e d : Span) (ds : List Span) → Shaped true d → Outside e d → Rest e ds → Rest e (d ∷ ds)
rest_out e d ds s o x = record {
  spans = d ∷ x.spans;
  shaped = (s, x.shaped);
  marks = back;
  outside = out;
  covered = cover;
  not_more = omega (arith, x.not_more);
  fewer = few;
}
  where
    back : (r t : ℕ) → Marked r t (d ∷ x.spans) → Marked r t (d ∷ ds)
    back r t (here h) = here h
    back r t (later m) = later (x.marks r t m)

    out : (r t : ℕ) → Marked r t (d ∷ x.spans) → Has e r t → ⊥
    out r t (here h) i = o.never r t h i
    out r t (later m) i = x.outside r t m i

    cover : (r t : ℕ) → Marked r t (d ∷ ds) → Has e r t ⊎ Marked r t (d ∷ x.spans)
    cover r t (here h) = inr (here h)
    cover r t (later m) = ⊎_elim (λ h. inl h) (λ n. inr (later n)) (x.covered r t m)

    few : (r t : ℕ) → Marked r t (d ∷ ds) → Has e r t → length (d ∷ x.spans) < length (d ∷ ds)
    few r t (here h) i = absurd (o.never r t h i)
    few r t (later m) i = omega (arith, x.fewer r t m i)

-- So from spans that each lie inside e or outside it.
rest : (e : Span) (ds : List Span) → All (Shaped true) ds → All (λ d. Inside e d ⊎ Outside e d) ds → Rest e ds
rest e [] s a = record {
  spans = [];
  shaped = tt;
  marks = λ r t m. m;
  outside = λ r t m h. not_marked m;
  covered = λ r t m. inr m;
  not_more = omega arith;
  fewer = λ r t m h. absurd (not_marked m);
}
rest e (d ∷ ds) s a = ⊎_elim (λ i. rest_in e d ds i (rest e ds s.1 a.1)) (λ o. rest_out e d ds s.0 o (rest e ds s.1 a.1)) a.0

-- ---- all of them

-- One span of ds at least for the first of es, and the others of ds for the others of es.
fewest_ranks : (es ds : List Span) → All (Shaped true) es → Sorted 1 es → All (Shaped true) ds → MarksIn es ds → MarksIn ds es → length es ≤ length ds
unfolding Sorted
fewest_ranks [] ds p a q f g = omega arith
fewest_ranks (e ∷ es) ds p a q f g =
    let x = rest e ds q (all_of_lem (λ d. Inside e d ⊎ Outside e d) ds each) in
    let first = has_first e p.0 in
    let more = x.fewer (rank e) e.first (f (rank e) e.first (here first)) first in
    omega (arith, more, fewest_ranks es x.spans p.1 a.1 x.shaped (forth x) (back x))
  where
    each : (d : Span) → Memᴰ d ds → Inside e d ⊎ Outside e d
    each d i = inside_or_out e d es p.0 (all_at (Shaped true) ds q d i) a.0 (λ r t h. g r t (entry_marked ds i h))

    forth : (x : Rest e ds) → MarksIn es x.spans
    forth x r t m = ⊎_elim (λ h. absurd (not_past 1 e h (later_past 1 e es a.0 m))) (λ n. n) (x.covered r t (f r t (later m)))

    back : (x : Rest e ds) → MarksIn x.spans es
    back x r t m = go (g r t (x.marks r t m))
      where
        go : Marked r t (e ∷ es) → Marked r t es
        go (here h) = absurd (x.outside r t m h)
        go (later n) = n

-- "The spans written are the fewest for that set."
pub fewest : (es ds : List Span) → InOrder true es → All (Shaped true) ds → SameMarks (marks_of_all es) (marks_of_all ds) → length es ≤ length ds
fewest es ds o q s = fewest_ranks es ds o.shaped o.sorted q (same_ranks es ds s) (same_ranks ds es (same_back s))
