-- The tops' marks in a table, and what closing it after them gives.
-- Assumes nothing.
use mathlib.Core.Path.{◌≡◌, refl, sym, ap, ◌∙◌, subst}
use mathlib.Core.Bool.{Bool, true}
use mathlib.Core.List.{List, Memᴰ}
use mathlib.Core.Logic.{◌⊎◌, inl, inr, ⊎_elim, ◌↔◌}
use Prim.Native.Nat.{ℕ, ◌+◌, ◌/◌, ◌≤◌, ◌<◌}
use native.Mathlib.Omega.{arith}
use lib.ListN.{length, get_or}
use Rattle.spec_ticks.proofs.Bits.{lt_or_ge}
use Rattle.spec_tilco.specs.Inference.{Mark, mark, Marks, Derives, start, top, ◌or◌}
use Rattle.spec_tilco.specs.Table.{words, Stands}
use Rattle.spec_tilco.proofs.Derives.{cut, monotone}
use Rattle.table_marks.specs.Puts.{AddsMarks}
use Rattle.table_marks.proofs.Marks.{gains_none, gains_then}
use Rattle.table_words.specs.WordTicks.{HasRow, Ticks, Here, Bits, Joins}
use Rattle.close_table.specs.Closes.{LeastClosed, RowTrue, TopMarks, ClosesAll, ClosesWithTops}
use Rattle.table_words.proofs.Gaining.{joins_as}
use Rattle.close_rules.specs.Effects.{TableFits}
use Rattle.close_rules.proofs.Decoding.{has_row, sized_as}
use Rattle.close_list.specs.Workable.{Workable, Closable}
use Rattle.close_list.proofs.Workable.{with_lists, closable}

-- ---- one row
module _ (n W r : ℕ) where
  -- Row r true at the window's ticks of the first m words.
  abbrev pub Until : ℕ → Marks
  Until m (mark x t v) = RowTrue W r (mark x t v) × (t / 64 < m)

  pub until_none : (T : List ℕ) → AddsMarks n (Until 0) T T
  until_none T = gains_none n (Until 0) T none
    where
      none : (m : Mark) → Until 0 m → ⊥
      none (mark x t v) h = absurd (omega (arith, h.1))

  pub until_more : (m ticks changed : ℕ) (T T' T'' : List ℕ) → AddsMarks n (Until m) T T' → Ticks m ticks (λ t. t < W) → Joins n (Here r true m (Bits ticks)) T' T'' changed
      → AddsMarks n (Until (m + 1)) T T''
  until_more m ticks changed T T' T'' a f j =
      gains_then n (Until m) (Here r true m (λ t. t < W)) (Until (m + 1)) same a (joins_as n T' T'' r true m ticks changed (λ t. t < W) f j).gains
    where
      same : (k : Mark) → (◌or◌ (Until m) (Here r true m (λ t. t < W))) k ↔ Until (m + 1) k
      same (mark x t v) = (
        ⊎_elim (λ h. (h.0, omega (arith, h.1))) (λ h. ((h.3, h.1, h.0), omega (arith, h.2))),
        λ h. ⊎_elim (λ l. inl (h.0, l)) (λ l. inr (h.0.2, h.0.1, omega (arith, h.1), h.0.0)) (lt_or_ge (t / 64) m),
      )

  pub until_all : (T T' : List ℕ) → n ≡ words W → AddsMarks n (Until n) T T' → AddsMarks n (RowTrue W r) T T'
  unfolding words
  until_all T T' e a = record { size = a.size; exactly = each }
    where
      each : (m : Mark) → Stands n T' m ↔ (◌or◌ (Stands n T) (RowTrue W r)) m
      each (mark x t v) = (
        λ i. ⊎_elim inl (λ h. inr h.0) ((a.exactly (mark x t v)).0 i),
        ⊎_elim (λ i. (a.exactly (mark x t v)).1 (inl i)) (λ h. (a.exactly (mark x t v)).1 (inr (h, omega (arith, h.0)))),
      )

-- ---- the tops
module _ (n W : ℕ) (B : List ℕ) where
  pub tops_none : (T : List ℕ) → AddsMarks n (TopMarks W B 0) T T
  tops_none T = gains_none n (TopMarks W B 0) T none
    where
      none : (m : Mark) → TopMarks W B 0 m → ⊥
      none (mark x t v) h = absurd (omega (arith, h.2.1))

  pub tops_more : (k row : ℕ) → row ≡ get_or B k 0 → (T T' T'' : List ℕ) → AddsMarks n (TopMarks W B k) T T' → AddsMarks n (RowTrue W row) T' T'' → AddsMarks n (TopMarks W B (k + 1)) T T''
  tops_more k row d T T' T'' a b = gains_then n (TopMarks W B k) (RowTrue W (get_or B k 0)) (TopMarks W B (k + 1)) same a (subst (λ (j : ℕ). AddsMarks n (RowTrue W j) T' T'') d b)
    where
      last : (x i : ℕ) → i < k + 1 → get_or B i 0 ≡ x → ((i : ℕ) × (i < k) × (get_or B i 0 ≡ x)) ⊎ (x ≡ get_or B k 0)
      last x i l e = ⊎_elim (λ h. inl (i, h, e)) (λ h. let g : i ≡ k = omega arith in inr (sym e ∙ ap (λ (j : ℕ). get_or B j 0) g)) (lt_or_ge i k)

      same : (m : Mark) → (◌or◌ (TopMarks W B k) (RowTrue W (get_or B k 0))) m ↔ TopMarks W B (k + 1) m
      same (mark x t v) = (
        ⊎_elim (λ h. (h.0, h.1, (h.2.0, omega (arith, h.2.1), h.2.2))) (λ h. (h.0, h.1, (k, omega arith, sym h.2))),
        λ h. ⊎_elim (λ l. inl (h.0, h.1, l)) (λ l. inr (h.0, h.1, l)) (last x h.2.0 h.2.1 h.2.2),
      )

  -- The tops can be marked: each is a row, so the table has it.
  pub tops_there : (k : ℕ) {count : ℕ} {T : List ℕ} → TableFits n count W T → (k ≤ length B) × ((i : ℕ) → i < k → get_or B i 0 < count)
      → ((k ≤ length B) × (n ≡ words W)) × ((i : ℕ) → i < k → HasRow n T (get_or B i 0))
  tops_there k {count} {T} s rows = ((rows.0, s.words_are), λ i l. has_row n count T (get_or B i 0) s.long (rows.1 i l))

  -- Their marks are in the window, so the table can be closed still.
  pub tops_closable : (k : ℕ) {count : ℕ} {R D T T' : List ℕ} → AddsMarks n (TopMarks W B k) T T' → Closable count n W R D T → Closable count n W R D T'
  tops_closable k a c = record {
    coded = c.coded;
    roomy = c.roomy;
    sized = sized_as a.size c.sized;
    inside = λ r t v i. ⊎_elim (c.inside r t v) (λ h. h.0) ((a.exactly (mark r t v)).0 i);
  }

  pub tops_workable : (k : ℕ) {count : ℕ} {R H N D T T' : List ℕ} → AddsMarks n (TopMarks W B k) T T' → Workable count n W R H N D T → Workable count n W R H N D T'
  tops_workable k a w = with_lists w.linked (tops_closable k a (closable w))

  -- The tops marked and then the table closed: it has exactly what the rules lead to from the tops and its marks.
  pub tops_then_close : (count : ℕ) (R : List ℕ) (k : ℕ) (T T' T'' : List ℕ) → AddsMarks n (TopMarks W B k) T T' → ClosesAll count R W n T' T''
      → ClosesWithTops count R B k W n T T''
  tops_then_close count R k T T' T'' a closes P codes tops = record {
    size = s.size ∙ a.size;
    small = s.small;
    exactly = λ m. (λ i. cut back ((s.exactly m).0 i), λ d. (s.exactly m).1 (monotone (λ p i. (a.exactly p).1 (inl i)) d));
  }
    where
      s : LeastClosed n P W T' T''
      s = closes P codes (λ r i t l. (a.exactly (mark r t true)).1 (inr (l, refl, tops.every r i)))

      follows : (m : Mark) → TopMarks W B k m → Derives P W (Stands n T) m
      follows (mark x t v) h =
          subst (λ (w : Bool). Derives P W (Stands n T) (mark x t w)) (sym h.1)
          (top (subst (λ (y : ℕ). Memᴰ y P.tops) h.2.2 (tops.given h.2.0 h.2.1)) h.0)

      back : (m : Mark) → Stands n T' m → Derives P W (Stands n T) m
      back m i = ⊎_elim start (follows m) ((a.exactly m).0 i)

-- A top's row is in a table of the same length.
pub top_row : (n : ℕ) (T T' : List ℕ) (row x : ℕ) → row ≡ x → length T' ≡ length T → HasRow n T x → HasRow n T' row
top_row n T T' row x d e h = rw (d, e) h
