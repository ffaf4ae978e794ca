-- Spans in order taken apart into readings: they are in order, each once, and have the same marks.
-- Assumes nothing.
use mathlib.Core.Path.{◌≡◌, refl, sym, ap₂, ◌∙◌}
use mathlib.Core.Bool.{Bool, true, false}
use mathlib.Core.List.{List, [], ◌∷◌, ◌++◌, flatten}
use mathlib.Core.Logic.{inl, inr}
use Prim.Native.Nat.{ℕ, zero, suc, ◌+◌, ◌-◌, ◌≤◌}
use native.Mathlib.Omega.{arith}
use Rattle.spec_tilco.specs.Inference.{Mark, mark}
use Rattle.spec_tilco.specs.Lists.{All}
use Rattle.spec_tilco.proofs.Lists.{all_append, all_weaker}
use Rattle.read_reading.specs.Spans.{Span, span, marks_from, marks_of, marks_of_all}
use Rattle.read_reading.proofs.SpanMarks.{marks_of_cons, marks_of_append}
use Rattle.spec_moves.specs.InOrder.{rank, Before, Sorted, Shaped, InOrder}
use Rattle.join_spans.specs.Joining.{singles_from, singles, all_singles}

-- ---- order

-- Lists in order, each entry of the first before each of the second.
sorted_append : (g : ℕ) (xs ys : List Span) → Sorted g xs → Sorted g ys → All (λ x. All (Before g x) ys) xs → Sorted g (xs ++ ys)
unfolding Sorted
sorted_append g [] ys s z a = z
sorted_append g (x ∷ xs) ys s z a = (all_append (Before g x) xs ys s.0 a.0, sorted_append g xs ys s.1 z a.1)

-- A reading of one of a span's ticks.
record OneIn (e d : Span) : Type 0 where
  row : rank d ≡ rank e
  single : d.first ≡ d.last
  starts : e.first ≤ d.first
  ends : d.last ≤ e.last

-- The readings at n ticks from s on, where these are ticks of e.
from_in : (e : Span) (s n : ℕ) → e.first ≤ s → n ≤ e.last + 1 - s → All (OneIn e) (singles_from e.signal e.value s n)
unfolding singles_from
from_in e s zero l u = tt
from_in e s (suc n) l u = (record { row = refl; single = refl; starts = l; ends = omega arith }, from_in e (s + 1) n (omega arith) (omega arith))

from_sorted : (x : ℕ) (v : Bool) (s n : ℕ) → Sorted 0 (singles_from x v s n)
unfolding singles_from Sorted
from_sorted x v s zero = tt
from_sorted x v s (suc n) =
    let more = span x v (s + 1) (s + n) in
    let after = from_in more (s + 1) n (omega arith) (omega arith) in
    (all_weaker (OneIn more) (Before 0 (span x v s s)) (λ d o. inr (sym o.row, omega (arith, o.starts))) (singles_from x v (s + 1) n) after, from_sorted x v (s + 1) n)

singles_in : (e : Span) → All (OneIn e) (singles e)
unfolding singles
singles_in e = from_in e e.first (e.last + 1 - e.first) (omega arith) (omega arith)

singles_sorted : (e : Span) → Sorted 0 (singles e)
unfolding singles
singles_sorted e = from_sorted e.signal e.value e.first (e.last + 1 - e.first)

-- What holds of every reading of a span's ticks holds of its readings.
of_singles : (P : Span → Type 0) (e : Span) → ((d : Span) → OneIn e d → P d) → All P (singles e)
of_singles P e f = all_weaker (OneIn e) P f (singles e) (singles_in e)

-- A reading of a span comes before and after what the span comes before and after.
one_before : (c e : Span) {d : Span} → OneIn e d → Before 0 c e → Before 0 c d
one_before c e o (inl l) = inl (omega (arith, o.row))
one_before c e o (inr k) = inr (omega (arith, o.row, k.0), omega (arith, o.starts, k.1))

before_one : (g : ℕ) (c e : Span) {d : Span} → OneIn e d → Before g e c → Before 0 d c
before_one g c e o (inl l) = inl (omega (arith, o.row))
before_one g c e o (inr k) = inr (omega (arith, o.row, k.0), omega (arith, o.ends, k.1))

-- What comes before spans comes before all their readings.
singles_before : (c : Span) (es : List Span) → All (Before 0 c) es → All (Before 0 c) (all_singles es)
unfolding all_singles flatten
singles_before c [] a = tt
singles_before c (e ∷ es) a =
    all_append (Before 0 c) (singles e) (all_singles es) (of_singles (Before 0 c) e (λ d o. one_before c e o a.0)) (singles_before c es a.1)

-- The readings of a span come before those of the spans that it comes before.
singles_apart : (g : ℕ) (e : Span) (es : List Span) → All (Before g e) es → All (λ d. All (Before 0 d) (all_singles es)) (singles e)
singles_apart g e es a =
    of_singles (λ d. All (Before 0 d) (all_singles es)) e (λ d o. singles_before d es (all_weaker (Before g e) (Before 0 d) (λ c b. before_one g c e o b) es a))

all_singles_sorted : (g : ℕ) (es : List Span) → Sorted g es → Sorted 0 (all_singles es)
unfolding all_singles flatten Sorted
all_singles_sorted g [] s = tt
all_singles_sorted g (e ∷ es) s =
    sorted_append 0 (singles e) (all_singles es) (singles_sorted e) (all_singles_sorted g es s.1) (singles_apart g e es s.0)

all_singles_shaped : (es : List Span) → All (Shaped false) (all_singles es)
unfolding all_singles flatten
all_singles_shaped [] = tt
all_singles_shaped (e ∷ es) = all_append (Shaped false) (singles e) (all_singles es) (of_singles (Shaped false) e (λ d o. o.single)) (all_singles_shaped es)

-- The readings of spans in order are in order.
pub singles_in_order : (es : List Span) → InOrder true es → InOrder false (all_singles es)
singles_in_order es o = record { shaped = all_singles_shaped es; sorted = all_singles_sorted 1 es o.sorted }

-- ---- marks

-- A reading has one mark.
pub one_mark : (x t : ℕ) (v : Bool) → marks_of (span x v t t) ≡ mark x t v ∷ []
unfolding marks_of marks_from
one_mark x t v = let n : t + 1 - t ≡ 1 = omega arith in rw n

from_marks : (x : ℕ) (v : Bool) (s n : ℕ) → marks_of_all (singles_from x v s n) ≡ marks_from x v s n
unfolding singles_from marks_from marks_of_all flatten
from_marks x v s zero = refl
from_marks x v s (suc n) = ap₂ (λ (ms ns : List Mark). ms ++ ns) (one_mark x s v) (from_marks x v (s + 1) n)

-- The readings of spans have the marks of the spans, in the same order.
pub singles_marks : (es : List Span) → marks_of_all (all_singles es) ≡ marks_of_all es
unfolding all_singles flatten singles marks_of
singles_marks [] = refl
singles_marks (e ∷ es) =
    marks_of_append (singles e) (all_singles es)
    ∙ ap₂ (λ (ms ns : List Mark). ms ++ ns) (from_marks e.signal e.value e.first (e.last + 1 - e.first)) (singles_marks es)
    ∙ sym (marks_of_cons e es)
