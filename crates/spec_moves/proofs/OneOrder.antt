-- Two lists in order with the same marks are the same list: there is one way to write a move.
-- Assumes nothing.
use mathlib.Core.Path.{◌≡◌, refl, sym, subst}
use mathlib.Core.Bool.{Bool, true, false}
use mathlib.Core.List.{List, [], ◌∷◌}
use mathlib.Core.Logic.{inl, inr}
use Prim.Native.Nat.{ℕ, ◌≤◌}
use native.Mathlib.Omega.{arith}
use Rattle.spec_tilco.specs.Inference.{Mark}
use Rattle.spec_tilco.specs.Lists.{All}
use Rattle.write_lines.specs.LineTexts.{one_if}
use Rattle.read_reading.specs.Spans.{Span, span, marks_of_all}
use Rattle.spec_moves.specs.InOrder.{rank, Before, Sorted, Shaped, InOrder, SameMarks, MovedTo}
use Rattle.spec_moves.proofs.Ranks.{Has, Marked, here, later, not_marked, MarksIn, rank_signal, rank_value, same_ranks, same_back, same_on}
use Rattle.spec_moves.proofs.Bounds.{shaped_order}
use Rattle.spec_moves.proofs.FirstEntry.{has_first, later_past, not_past, NotBefore, from_first, ends_inside}

-- Two entries with the same row, first and last are the same.
span_one : (e d : Span) → rank e ≡ rank d → e.first ≡ d.first → e.last ≡ d.last → e ≡ d
span_one e d r f l =
    let x = rank_signal e.signal d.signal e.value d.value r in
    let v = rank_value e.signal d.signal e.value d.value r in
    alike x v f l
  where
    alike : {x y : ℕ} {v u : Bool} {f g l m : ℕ} → x ≡ y → v ≡ u → f ≡ g → l ≡ m → span x v f l ≡ span y u g m
    alike a b c d = cc

-- Their first entries start at the same tick of the same row: the first of all.
same_start : (gap : ℕ) (e d : Span) (es ds : List Span) → e.first ≤ e.last → d.first ≤ d.last → All (Before gap e) es → All (Before gap d) ds
    → MarksIn (e ∷ es) (d ∷ ds) → MarksIn (d ∷ ds) (e ∷ es) → (rank e ≡ rank d) × (e.first ≡ d.first)
same_start gap e d es ds o q a b f g =
    go (from_first gap d ds q b (f (rank e) e.first (here (has_first e o))))
    (from_first gap e es o a (g (rank d) d.first (here (has_first d q))))
  where
    go : NotBefore d (rank e) e.first → NotBefore e (rank d) d.first → (rank e ≡ rank d) × (e.first ≡ d.first)
    go (inl k) (inl l) = absurd (omega arith)
    go (inl k) (inr l) = absurd (omega arith)
    go (inr k) (inl l) = absurd (omega arith)
    go (inr k) (inr l) = (l.0, omega arith)

-- They end at the same tick.
same_end : (spans : Bool) (e d : Span) (es ds : List Span) → Shaped spans e → Shaped spans d → All (Before (one_if spans) e) es → All (Before (one_if spans) d) ds
    → MarksIn (e ∷ es) (d ∷ ds) → MarksIn (d ∷ ds) (e ∷ es) → (rank e ≡ rank d) × (e.first ≡ d.first) → e.last ≡ d.last
same_end true e d es ds o q a b f g s =
    let k = ends_inside e d es (sym s.0) (omega (arith, s.1)) a (λ t h. g (rank e) t (here h)) in
    let l = ends_inside d e ds s.0 (omega (arith, s.1)) b (λ t h. f (rank d) t (here h)) in
    omega arith
same_end false e d es ds o q a b f g s = omega (arith, s.1)

-- The others have the same marks.
same_rest : (gap : ℕ) (e d : Span) (es ds : List Span) → d ≡ e → All (Before gap e) es → MarksIn (e ∷ es) (d ∷ ds) → MarksIn es ds
same_rest gap e d es ds s a f r t m = go (f r t (later m))
  where
    go : Marked r t (d ∷ ds) → Marked r t ds
    go (here h) = absurd (not_past gap e (subst (λ (c : Span). Has c r t) s h) (later_past gap e es a m))
    go (later x) = x

-- A list with marks is not one without.
some_marked : (e : Span) (es : List Span) → e.first ≤ e.last → MarksIn (e ∷ es) [] → ⊥
some_marked e es o f = not_marked (f (rank e) e.first (here (has_first e o)))

-- So the lists are the same, entry by entry.
one_order : (spans : Bool) (es ds : List Span) → All (Shaped spans) es → All (Shaped spans) ds → Sorted (one_if spans) es → Sorted (one_if spans) ds
    → MarksIn es ds → MarksIn ds es → es ≡ ds
unfolding Sorted
one_order spans [] [] p q a b f g = refl
one_order spans [] (d ∷ ds) p q a b f g = absurd (some_marked d ds (shaped_order spans d q.0) g)
one_order spans (e ∷ es) [] p q a b f g = absurd (some_marked e es (shaped_order spans e p.0) f)
one_order spans (e ∷ es) (d ∷ ds) p q a b f g =
    let s = same_start (one_if spans) e d es ds (shaped_order spans e p.0) (shaped_order spans d q.0) a.0 b.0 f g in
    let l = same_end spans e d es ds p.0 q.0 a.0 b.0 f g s in
    let h = span_one e d s.0 s.1 l in
    let forth = same_rest (one_if spans) e d es ds (sym h) a.0 f in
    let back = same_rest (one_if spans) d e ds es h b.0 g in
    let i = one_order spans es ds p.1 q.1 a.1 b.1 forth back in
    cc

-- Lists in order with the same marks are the same.
pub in_order_one : (spans : Bool) (es ds : List Span) → InOrder spans es → InOrder spans ds → SameMarks (marks_of_all es) (marks_of_all ds) → es ≡ ds
in_order_one spans es ds o q s =
    one_order spans es ds o.shaped q.shaped o.sorted q.sorted (same_ranks es ds s) (same_ranks ds es (same_back s))

-- A move makes one list of the same marks.
pub moved_one : {spans : Bool} {ms ns : List Mark} {es ds : List Span} → SameMarks ms ns → MovedTo spans ms es → MovedTo spans ns ds → es ≡ ds
moved_one {spans} {ms} {ns} {es} {ds} s m n = in_order_one spans es ds m.in_order n.in_order (same_on m.same (same_on s (same_back n.same)))
