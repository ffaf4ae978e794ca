-- Spans noted as numbers: the number of a span, one more in an array, what holds of each, and their marks put one span after the other.
-- Assumes nothing.
use mathlib.Core.Path.{◌≡◌, refl}
use mathlib.Core.Bool.{Bool, true, false}
use mathlib.Core.List.Memᴰ
use mathlib.Core.List.{List, [], ◌∷◌, ◌++◌, map-append}
use mathlib.Core.Logic.{◌⊎◌, inl, inr, ⊎_elim}
use Prim.Native.Nat.{ℕ, zero, suc, ◌+◌, ◌*◌, ◌/◌, ◌%◌, ◌<◌, ◌≤◌}
use native.Mathlib.Numerals.{add-one}
use native.Mathlib.Omega.{arith}
use lib.Dec.{eqb}
use lib.ListN.{length, get_or, set}
use lib.Seq.{take-suc, take-suc-set}
use Rattle.std.specs.Int.{from_bool}
use Rattle.spec_limits.specs.Limits.{most_ticks}
use Rattle.spec_tilco.specs.Inference.{Mark, mark}
use Rattle.spec_tilco.specs.Lists.{All}
use Rattle.spec_tilco.specs.Table.{ReadMarks}
use Rattle.table_marks.specs.Puts.{AddsMarks, Puts}
use Rattle.table_marks.proofs.Marks.{gains_then}
use Rattle.table_spans.specs.SpanMarks.{Between}
use Rattle.read_reading.specs.Spans.{Span, span, marks_of_all}
use Rattle.read_reading.proofs.SpanMarks.{of_span, in_span, in_none, one_in, in_cons, in_append}
use Rattle.read_readings.specs.SpanNumbers.{row_spans, span_of, spans_in}

-- The row of value 0 is a signal's first.
pub side_is : (v : Bool) → (from_bool v < 2) × (eqb (from_bool v) 1 ≡ v)
side_is true = (omega arith, refl)
side_is false = (omega arith, refl)

-- The number of a span is that span; b is 1 for true and 0 for false.
pub number_is : (w x b f l : ℕ) {v : Bool} → f < most_ticks → l < most_ticks → b < 2 → w ≡ l + most_ticks * (f + most_ticks * (b + 2 * x)) → eqb b 1 ≡ v → span_of w ≡ span x v f l
number_is w x b f l h k i j e =
    let row : w / (2 * row_spans) ≡ x = omega arith in
    let side : w / row_spans ≡ b + 2 * x = omega arith in
    let value : (b + 2 * x) % 2 ≡ b = omega arith in
    let upper : w / most_ticks ≡ f + most_ticks * (b + 2 * x) = omega arith in
    let first : (f + most_ticks * (b + 2 * x)) % most_ticks ≡ f = omega arith in
    let last : w % most_ticks ≡ l = omega arith in
    rw (row, side, value, upper, first, last, e)

module _ (a : List ℕ) (k : ℕ) (h : k < length a) where
  -- One number more.
  pub spans_next : spans_in a (k + 1) ≡ spans_in a k ++ (span_of (get_or a k 0) ∷ [])
  unfolding spans_in
  spans_next = rw (add-one, take-suc a k 0 h, map-append)

  -- One more is written.
  pub spans_more : (w : ℕ) {e : Span} → span_of w ≡ e → spans_in (set a k w) (k + 1) ≡ spans_in a k ++ (e ∷ [])
  unfolding spans_in
  spans_more w e = rw (add-one, take-suc-set a k w h, map-append, e)

-- What holds of each of the spans holds of that at i.
pub spans_all : (Q : Span → Type 0) (a : List ℕ) (k i : ℕ) → i < k → k ≤ length a → All Q (spans_in a k) → Q (span_of (get_or a i 0))
unfolding spans_in
spans_all Q [] k i h l p = let z : ⊥ = omega arith in absurd z
spans_all Q (w ∷ a) zero i h l p = let z : ⊥ = omega arith in absurd z
spans_all Q (w ∷ a) (suc k) zero h l p = p.0
spans_all Q (w ∷ a) (suc k) (suc i) h l p = spans_all Q a k i (omega arith) (omega arith) p.1

-- One span more is put: exactly the marks of all of them so far.
pub puts_span : (n : ℕ) (a : List ℕ) (i : ℕ) → i < length a → {T T' T'' : List ℕ} → Puts n (marks_of_all (spans_in a i)) T T'
    → AddsMarks n (Between (span_of (get_or a i 0)).signal (span_of (get_or a i 0)).value (span_of (get_or a i 0)).first (span_of (get_or a i 0)).last) T' T''
    → Puts n (marks_of_all (spans_in a (i + 1))) T T''
puts_span n a i h x y =
    rw (spans_next a i h)
    (gains_then n (ReadMarks (marks_of_all (spans_in a i))) (Between e.signal e.value e.first e.last) (ReadMarks (marks_of_all (spans_in a i ++ (e ∷ [])))) (λ m. (to m, from m)) x y)
  where
    e : Span
    e = span_of (get_or a i 0)

    to : (m : Mark) → ReadMarks (marks_of_all (spans_in a i)) m ⊎ Between e.signal e.value e.first e.last m → ReadMarks (marks_of_all (spans_in a i ++ (e ∷ []))) m
    to (mark x t v) j = (in_append (spans_in a i) (e ∷ [])).1 (⊎_elim inl (λ c. inr (one_in (e ∷ []) (Memᴰ.head refl) (in_span e c))) j)

    from : (m : Mark) → ReadMarks (marks_of_all (spans_in a i ++ (e ∷ []))) m → ReadMarks (marks_of_all (spans_in a i)) m ⊎ Between e.signal e.value e.first e.last m
    from (mark x t v) j =
        ⊎_elim inl
        (λ k. inr (⊎_elim (of_span e) (λ o. absurd (in_none o)) ((in_cons e []).0 k)))
        ((in_append (spans_in a i) (e ∷ [])).0 j)
