-- Spans noted as numbers, joined one number after the other: where a run starts, goes on and ends.
-- Assumes nothing. `a` has the numbers.
use mathlib.Core.Path.{◌≡◌, refl, sym, ap, ◌∙◌}
use mathlib.Core.Bool.{Bool, true, false, ◌&&◌}
use mathlib.Core.List.{List, [], ◌∷◌, map}
use Prim.Native.Nat.{ℕ, zero, suc, ◌+◌, ◌*◌, ◌/◌, ◌%◌, ◌<◌, ◌≤◌}
use native.Mathlib.Numerals.{add-one}
use native.Mathlib.Omega.{arith}
use borrow.Author.Tests.{eq-eqb, ne_eqb}
use lib.Dec.{leb, ltb, eqb}
use lib.ListN.{length, get_or, drop_of_length-le}
use lib.Seq.{drop-cons}
use Rattle.spec_limits.specs.Limits.{most_ticks}
use Rattle.read_bytes.specs.Bytes.{pick}
use Rattle.read_reading.specs.Spans.{Span}
use Rattle.read_readings.specs.SpanNumbers.{row_spans, span_of}
use Rattle.write_lines.specs.LineTexts.{one_if}
use Rattle.spec_moves.specs.InOrder.{rank}
use Rattle.join_spans.specs.Joining.{meets, grown, joined, merged}
use Rattle.join_spans.specs.Runs.{in_row, spans_from, RunFrom}
use Rattle.join_spans.proofs.Joined.{joined_meets, joined_apart}

-- ---- rows by their numbers

-- A row's number is its place in the order.
pub rank_row : (row f l : ℕ) → rank (in_row row f l) ≡ row
rank_row row f l = go (row % 2) refl (omega arith)
  where
    go : (b : ℕ) → row % 2 ≡ b → b < 2 → 2 * (row / 2) + one_if (eqb b 1) ≡ row
    go zero e h = omega arith
    go (suc zero) e h = omega arith
    go (suc (suc b)) e h = absurd (omega arith)

-- The span of a number is in the row that the number starts with.
pub span_row : (w : ℕ) → span_of w ≡ in_row (w / row_spans) (w / most_ticks % most_ticks) (w % most_ticks)
span_row w = let e : w / (2 * row_spans) ≡ w / row_spans / 2 = omega arith in rw e

pub rank_of_lem : (w : ℕ) → rank (span_of w) ≡ w / row_spans
rank_of_lem w = ap rank (span_row w) ∙ rank_row (w / row_spans) (w / most_ticks % most_ticks) (w % most_ticks)

-- What is asked of a number to tell whether its span meets a run: its row, and its first tick. The run's first tick is not asked for.
module _ (row f l w : ℕ) where
  meets_is : meets (in_row row f l) (span_of w) ≡ (eqb row (w / row_spans) && leb (w / most_ticks % most_ticks) (l + 1))
  unfolding meets
  meets_is = rw (rank_row row f l, rank_of_lem w)

  pub same_row : {k : ℕ} → k ≡ l + 1 → w / row_spans ≡ row → leb (w / most_ticks % most_ticks) k ≡ meets (in_row row f l) (span_of w)
  same_row next e = sym (meets_is ∙ rw (eq-eqb row (w / row_spans) (sym e), next))

  pub other_row : (w / row_spans ≡ row → ⊥) → false ≡ meets (in_row row f l) (span_of w)
  other_row n = sym (meets_is ∙ rw (ne_eqb row (w / row_spans) (λ e. n (sym e))))

pub any_first : (row f l w : ℕ) {r b : Bool} → r ≡ meets (in_row row 0 l) (span_of w) → r ≡ b → meets (in_row row f l) (span_of w) ≡ b
any_first row f l w e g = meets_is row f l w ∙ sym (meets_is row 0 l w) ∙ sym e ∙ g

-- ---- runs

-- A run with the ticks of one that meets it.
grows : (row f l w : ℕ) {k : ℕ} → k ≡ pick (ltb l (w % most_ticks)) (λ _. w % most_ticks) l → grown (in_row row f l) (span_of w) ≡ in_row row f k
unfolding grown
grows row f l w e = rw e

-- From an index on.
from_here : (a : List ℕ) (i : ℕ) → i < length a → spans_from a i ≡ span_of (get_or a i 0) ∷ spans_from a (i + 1)
from_here a i h = rw add-one (ap (map span_of) (drop-cons a i 0 h))

pub from_end : (a : List ℕ) (i : ℕ) → length a ≤ i → spans_from a i ≡ []
from_end a i h = ap (map span_of) (drop_of_length-le a h)

-- The numbers from i to `next` are joined to the span of these ticks in this row.
pub record Running (a : List ℕ) (i row f l next : ℕ) : Type 0 where
  pub same : merged (spans_from a i) ≡ joined (in_row row f l) (spans_from a next)
  pub row_is : row ≡ get_or a i 0 / row_spans
  pub ahead : i < next
  pub inside : next ≤ length a
  pub start : f < most_ticks
  pub tick : l < most_ticks

module _ (a : List ℕ) (i : ℕ) where
  -- It starts with one.
  pub run_starts : i < length a → Running a i (get_or a i 0 / row_spans) (get_or a i 0 / most_ticks % most_ticks) (get_or a i 0 % most_ticks) (i + 1)
  unfolding merged
  run_starts h = record {
    same = ap merged (from_here a i h) ∙ ap (λ (e : Span). joined e (spans_from a (i + 1))) (span_row (get_or a i 0));
    row_is = refl;
    ahead = omega arith;
    inside = omega arith;
    start = omega arith;
    tick = omega arith;
  }

  module _ {row f l next : ℕ} (z : Running a i row f l next) where
    -- One more is joined,
    pub run_grows : next < length a → meets (in_row row f l) (span_of (get_or a next 0)) ≡ true → {k : ℕ} → k ≡ pick (ltb l (get_or a next 0 % most_ticks)) (λ _. get_or a next 0 % most_ticks) l
        → Running a i row f k (next + 1)
    run_grows h m {k} e = record {
      same = z.same ∙ ap (joined (in_row row f l)) (from_here a next h) ∙ joined_meets (in_row row f l) (span_of (get_or a next 0)) (spans_from a (next + 1)) m
          ∙ ap (λ (c : Span). joined c (spans_from a (next + 1))) (grows row f l (get_or a next 0) e);
      row_is = z.row_is;
      ahead = omega (arith, z.ahead);
      inside = omega arith;
      start = z.start;
      tick = larger (ltb l (get_or a next 0 % most_ticks)) e;
    }
      where
        larger : (b : Bool) → k ≡ pick b (λ _. get_or a next 0 % most_ticks) l → k < most_ticks
        larger true g = omega arith
        larger false g = omega (arith, z.tick)

    -- or the next does not meet it, or there is none: the run ends.
    pub run_stops : next < length a → meets (in_row row f l) (span_of (get_or a next 0)) ≡ false → RunFrom a i row f l next
    unfolding merged
    run_stops h m = record {
      comes = z.same ∙ ap (joined (in_row row f l)) (from_here a next h) ∙ joined_apart (in_row row f l) (span_of (get_or a next 0)) (spans_from a (next + 1)) m
          ∙ ap (λ (es : List Span). in_row row f l ∷ merged es) (sym (from_here a next h));
      row_is = z.row_is;
      ahead = z.ahead;
      inside = z.inside;
      start = z.start;
      tick = z.tick;
    }

    pub run_ends : length a ≤ next → RunFrom a i row f l next
    unfolding joined merged
    run_ends h = record {
      comes = z.same ∙ ap (joined (in_row row f l)) (from_end a next h) ∙ ap (λ (es : List Span). in_row row f l ∷ merged es) (sym (from_end a next h));
      row_is = z.row_is;
      ahead = z.ahead;
      inside = z.inside;
      start = z.start;
      tick = z.tick;
    }
