-- Numbers put in ascending order: the spans that they are, and what the move makes of them.
-- Assumes nothing.
use mathlib.Core.Path.{◌≡◌, refl, sym, ap, subst, ◌∙◌}
use mathlib.Core.Bool.{Bool, true}
use mathlib.Core.List.Memᴰ
use mathlib.Core.List.{List, [], ◌∷◌, map, Memᴰ}
use mathlib.Core.Logic.{inl, inr, ⊎_elim}
use Prim.Native.Nat.{ℕ, ◌*◌, ◌/◌, ◌<◌, ◌≤◌}
use native.Mathlib.Decide.{dec_lt}
use native.Mathlib.Omega.{arith}
use lib.ListN.{length}
use Rattle.spec_tilco.specs.Inference.{Mark}
use Rattle.spec_tilco.specs.Lists.{All}
use Rattle.spec_tilco.specs.Table.{ReadMarks}
use Rattle.spec_tilco.proofs.Lists.{all_of_lem, all_at}
use Rattle.sort_numbers.specs.Sorts as sorts
use Rattle.sort_numbers.specs.Sorts.{Sorts}
use Rattle.sort_numbers.proofs.Ascending.{ascending_first, ascending_rest}
use Rattle.read_reading.specs.Spans.{Span, marks_of_all}
use Rattle.read_reading.proofs.SpanMarks.{in_one, one_in}
use Rattle.read_readings.specs.SpanNumbers.{row_spans, span_of}
use Rattle.spec_moves.specs.InOrder.{Shaped, SameMarks, MovedTo}
use Rattle.join_spans.specs.Joining.{Ascends, Ascending, move_to}
use Rattle.join_spans.proofs.RunSpans.{rank_of_lem}
use Rattle.join_spans.proofs.Moves.{moved_to}
use Rattle.op_moves.specs.MovedText.{CanWrite}

-- ---- spans by their numbers

-- A number that is not larger is of a span that is not later.
number_ascends : (w v : ℕ) → w ≤ v → Ascends (span_of w) (span_of v)
number_ascends w v h = go (dec_lt (w / row_spans) (v / row_spans))
  where
    go : Dec (w / row_spans < v / row_spans) → Ascends (span_of w) (span_of v)
    go (yes l) = inl (omega (arith, rank_of_lem w, rank_of_lem v))
    go (no l) =
        let e : w / row_spans ≡ v / row_spans = omega arith in
        inr (rank_of_lem w ∙ e ∙ sym (rank_of_lem v), omega arith)

all_ascend : (w : ℕ) (a : List ℕ) → All (λ v. w ≤ v) a → All (Ascends (span_of w)) (map span_of a)
all_ascend w [] h = tt
all_ascend w (v ∷ a) h = (number_ascends w v h.0, all_ascend w a h.1)

spans_ascend : (a : List ℕ) → sorts.Ascending a → Ascending (map span_of a)
unfolding Ascending
spans_ascend [] h = tt
spans_ascend (w ∷ a) h = (all_ascend w a (ascending_first h), spans_ascend a (ascending_rest h))

-- ---- the same numbers

span_in : {w : ℕ} (a : List ℕ) → Memᴰ w a → Memᴰ (span_of w) (map span_of a)
span_in [] i = absurd (Memᴰ.not-nil i)
span_in (v ∷ a) i = ⊎_elim (λ e. Memᴰ.head (ap span_of e)) (λ j. Memᴰ.tail (span_in a j)) (Memᴰ.cases_cons i)

number_in : {e : Span} (a : List ℕ) → Memᴰ e (map span_of a) → (w : ℕ) × Memᴰ w a × (e ≡ span_of w)
number_in [] i = absurd (Memᴰ.not-nil i)
number_in (v ∷ a) i = ⊎_elim (λ e. (v, Memᴰ.head refl, e)) (λ j. let x = number_in a j in (x.0, Memᴰ.tail x.1, x.2)) (Memᴰ.cases_cons i)

module _ {a b : List ℕ} (among : (w : ℕ) → Memᴰ w b → Memᴰ w a) where
  span_among : {e : Span} → Memᴰ e (map span_of b) → Memᴰ e (map span_of a)
  span_among i = let x = number_in b i in subst (λ (d : Span). Memᴰ d (map span_of a)) (sym x.2) (span_in a (among x.0 x.1))

  marks_among : (m : Mark) → ReadMarks (marks_of_all (map span_of b)) m → ReadMarks (marks_of_all (map span_of a)) m
  marks_among m i = let x = in_one (map span_of b) i in one_in (map span_of a) (span_among x.among) x.marked

-- ---- in order

module _ {a b : List ℕ} (o : Sorts a b) where
  same_marks : SameMarks (marks_of_all (map span_of b)) (marks_of_all (map span_of a))
  same_marks m = (marks_among (λ w. (o.same w).0) m, marks_among (λ w. (o.same w).1) m)

  -- What can be written can be in order,
  pub can_write : {names : List (List ℕ)} → CanWrite names a → CanWrite names b
  can_write {names} c = record {
    few = c.few;
    rows = all_of_lem (λ w. w < 2 * row_spans * length names) b (λ w i. all_at (λ v. v < 2 * row_spans * length names) a c.rows w ((o.same w).0 i));
    shaped = all_of_lem (Shaped true) (map span_of b) (λ e i. all_at (Shaped true) (map span_of a) c.shaped e (span_among (λ w. (o.same w).0) i));
    short = c.short;
  }

  -- and the move makes of it what it makes of the marks.
  pub moves_marks : (spans : Bool) {names : List (List ℕ)} → CanWrite names a → MovedTo spans (marks_of_all (map span_of a)) (move_to spans (map span_of b))
  moves_marks spans c =
      let z = moved_to spans (map span_of b) (spans_ascend b o.order) (can_write c).shaped in
      record { in_order = z.in_order; same = λ m. (λ i. (same_marks m).0 ((z.same m).0 i), λ i. (z.same m).1 ((same_marks m).1 i)) }
