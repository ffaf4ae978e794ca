-- A step of the proof: the table that the checker computes for a sheet and readings, if it passes a test, is the one that add makes of the empty table.
-- Assumes nothing. `s` is a sheet as it is read, R its readings.
use mathlib.Core.Path.{◌≡◌, refl, sym, ◌∙◌, subst}
use mathlib.Core.Bool.{Bool, true, false, ◌&&◌}
use mathlib.Core.List.{List}
use mathlib.Core.Logic.{inl, inr, ◌↔◌}
use Prim.Native.Nat.{ℕ, ◌*◌, ◌^◌, ◌<◌, ◌≤◌}
use native.Mathlib.Nat.{lt_of_lt_of_le}
use native.Mathlib.Decide.{dec_lt}
use native.Mathlib.Omega.{arith}
use lib.Dec.{T, eqb, eqb→eq, leb, leb→le, ltb}
use lib.ListN.{length, get_or, get_or-eq_default, length-replicate}
use lib.Pow.{pow_mono}
use Rattle.spec_ticks.specs.Ticks.{Has, block, Small, empty}
use Rattle.spec_ticks.proofs.Bits.{has_below, no_ticks}
use Rattle.spec_ticks.proofs.Tables.{empty_small, empty_bare}
use Rattle.spec_tilco.specs.Formula.{Sheet}
use Rattle.spec_tilco.specs.Inference.{Mark, mark, Marks, start, ◌or◌, Clash}
use Rattle.spec_tilco.specs.Lowering.{program, row_count_lem}
use Rattle.spec_tilco.specs.Table.{words, Standing, table_words, ReadMarks, Leads, Added, Answer, Unsettled, True, False, Contradiction, Asked, clashes, holds, fails, neither}
use Rattle.spec_tilco.proofs.OneWord.{one_word, as_long_as_before, standing_bit}
use Rattle.proof_cases.proofs.ComputedClosing.{and_left, and_right, both_so, all_of, all_of_all, some_below, some_found, found_some, Plain, stands, stands_is, is_stands, closing, closed, closing_derived, inside_word, closed_exactly}

abbrev blank : Sheet → List ℕ
blank s = empty (table_words s)

-- As many passes close the table of each case.
abbrev enough : ℕ
enough = 12

-- The table that they reach from the empty one.
abbrev pub table_of : Sheet → List Mark → List ℕ
table_of s R = closing enough (program s) s.window R (blank s)

-- The test: the window has 1 to 64 ticks, the length is kept, and the table is closed.
abbrev pub ready : Sheet → List Mark → List ℕ → Bool
ready s R U = (leb 1 s.window && leb s.window 64) && (eqb (length U) (table_words s) && closed (program s) s.window R U)

-- ---- a clash, looked for

abbrev clash_at : List ℕ → ℕ → ℕ → Bool
clash_at U r t = stands U (mark r t true) && stands U (mark r t false)

abbrev pub clashing : ℕ → ℕ → List ℕ → Bool
clashing W k U = some_below (λ r. some_below (clash_at U r) W) k

-- A table of k rows with no mark past the window clashes exactly if the search finds one.
clash_found : (W k : ℕ) (U : List ℕ) → length U ≡ 2 * k → ((i : ℕ) → get_or U i 0 < 2 ^ W) → Clash (Plain U) ↔ T (clashing W k U)
clash_found W k U e inside = (found, back)
  where
    in_rows : (r t : ℕ) → Plain U (mark r t true) → r < k
    in_rows r t i = go (dec_lt r k)
      where
        go : Dec (r < k) → r < k
        go (yes h) = h
        go (no h) =
            let z : get_or U (block r true) 0 ≡ 0 = get_or-eq_default U 0 (omega arith) in
            absurd (omega (arith, no_ticks t, subst (λ (w : ℕ). Has w t) z i))

    found : Clash (Plain U) → T (clashing W k U)
    found c =
        found_some (λ r. some_below (clash_at U r) W) k c.row (in_rows c.row c.tick c.holds)
        (found_some (clash_at U c.row) W c.tick (has_below (get_or U (block c.row true) 0) W c.tick (inside (block c.row true)) c.holds)
        (both_so (stands U (mark c.row c.tick true)) (stands U (mark c.row c.tick false)) (is_stands U (mark c.row c.tick true) c.holds) (is_stands U (mark c.row c.tick false) c.fails)))

    back : T (clashing W k U) → Clash (Plain U)
    back t =
        let r = some_found (λ r. some_below (clash_at U r) W) k t in
        let u = some_found (clash_at U r.0) W r.1 in
        record {
          row = r.0;
          tick = u.0;
          holds = stands_is U (mark r.0 u.0 true) (and_left (stands U (mark r.0 u.0 true)) (stands U (mark r.0 u.0 false)) u.1);
          fails = stands_is U (mark r.0 u.0 false) (and_right (stands U (mark r.0 u.0 true)) (stands U (mark r.0 u.0 false)) u.1);
        }

clash_in : (S S' : Marks) → ((m : Mark) → S m → S' m) → Clash S → Clash S'
clash_in S S' f c = record {
  row = c.row;
  tick = c.tick;
  holds = f (mark c.row c.tick true) c.holds;
  fails = f (mark c.row c.tick false) c.fails;
}

-- ---- what ask answers

-- from the three tests: a clash, a true mark, a false mark
abbrev answer_of : Bool → Bool → Bool → Answer
answer_of true a b = Contradiction
answer_of false true b = True
answer_of false false true = False
answer_of false false false = Unsettled

-- at signal x and tick t of a table that clashes or does not
abbrev pub answers_of : Bool → List ℕ → ℕ → ℕ → Answer
answers_of clash U x t = answer_of clash (stands U (mark x t true)) (stands U (mark x t false))

module _ {S : Marks} (x t : ℕ) where
  answer_asked : (c a b : Bool) → Clash S ↔ T c → S (mark x t true) ↔ T a → S (mark x t false) ↔ T b → Asked S x t (answer_of c a b)
  answer_asked true a b p q r = clashes (p.1 tt)
  answer_asked false true b p q r = holds p.0 (q.1 tt)
  answer_asked false false true p q r = fails p.0 (r.1 tt)
  answer_asked false false false p q r = neither p.0 q.0 r.0

-- ---- what the test shows

module _ (s : Sheet) (R : List Mark) where
  abbrev U : List ℕ
  U = table_of s R

  module _ (passed : T (ready s R U)) where
    abbrev ranged : Bool
    ranged = leb 1 s.window && leb s.window 64

    abbrev kept : Bool
    kept = eqb (length U) (table_words s)

    abbrev done : Bool
    done = closed (program s) s.window R U

    window_test : T ranged
    window_test = and_left ranged (kept && done) passed

    closed_test : T done
    closed_test = and_right kept done (and_right ranged (kept && done) passed)

    length_is : length U ≡ table_words s
    length_is = eqb→eq (length U) (table_words s) (and_left kept done (and_right ranged (kept && done) passed))

    some : 1 ≤ s.window
    some = leb→le 1 s.window (and_left (leb 1 s.window) (leb s.window 64) window_test)

    most : s.window ≤ 64
    most = leb→le s.window 64 (and_right (leb 1 s.window) (leb s.window 64) window_test)

    inside : (i : ℕ) → get_or U i 0 < 2 ^ s.window
    inside = inside_word s.window U (all_of_all (λ w. ltb w (2 ^ s.window)) U (and_left (all_of (λ w. ltb w (2 ^ s.window)) U) _ closed_test))

    small : Small 64 U
    small i = lt_of_lt_of_le (inside i) (pow_mono most)

    standing_plain : (m : Mark) → Standing s U m ↔ Plain U m
    standing_plain (mark r t v) = (
      λ i. (standing_bit s some most U r t (block r v) v (omega (arith, i.within, one_word s some most)) refl).0 i,
      λ i. (standing_bit s some most U r t (block r v) v (has_below (get_or U (block r v) 0) 64 t (small (block r v)) i) refl).1 i,
    )

    none : (m : Mark) → Standing s (blank s) m → ⊥
    none (mark x t v) i = empty_bare 64 (words s.window) (table_words s) x t v i

    only : (m : Mark) → Plain U m → Leads s (◌or◌ (Standing s (blank s)) (ReadMarks R)) m
    only =
        closing_derived (program s) s.window (◌or◌ (Standing s (blank s)) (ReadMarks R)) enough R (blank s) (λ m i. start (inr i))
        (λ m i. absurd (plain_none m i))
      where
        plain_none : (m : Mark) → Plain (blank s) m → ⊥
        plain_none (mark x t v) i =
            none (mark x t v) ((standing_bit s some most (blank s) x t (block x v) v (has_below (get_or (blank s) (block x v) 0) 64 t (empty_small 64 (table_words s) (block x v)) i) refl).1 i)

    begun : ((m : Mark) → ReadMarks R m → Plain U m) → (m : Mark) → ◌or◌ (Standing s (blank s)) (ReadMarks R) m → Plain U m
    begun f m (inl i) = absurd (none m i)
    begun f m (inr i) = f m i

    -- The table has two words a row.
    pub two_a_row : table_words s ≡ 2 * row_count_lem s
    two_a_row = as_long_as_before s some most

    pub added : Added s (blank s) R U
    added = record {
      size = length_is ∙ sym (length-replicate {A = ℕ} (table_words s) 0);
      small = small;
      exactly = λ m. let e = closed_exactly (program s) s.window U inside R (◌or◌ (Standing s (blank s)) (ReadMarks R)) closed_test only begun m in
          (λ i. e.0 ((standing_plain m).0 i), λ d. (standing_plain m).1 (e.1 d));
    }

    pub clash_is : Clash (Standing s U) ↔ T (clashing s.window (row_count_lem s) U)
    clash_is =
        let found = clash_found s.window (row_count_lem s) U (length_is ∙ two_a_row) inside in (
          λ c. found.0 (clash_in (Standing s U) (Plain U) (λ m. (standing_plain m).0) c),
          λ t. clash_in (Plain U) (Standing s U) (λ m. (standing_plain m).1) (found.1 t),
        )

    pub asked : (x t : ℕ) → Asked (Standing s U) x t (answers_of (clashing s.window (row_count_lem s) U) U x t)
    asked x t = answer_asked x t (clashing s.window (row_count_lem s) U) (stands U (mark x t true)) (stands U (mark x t false)) clash_is (tested (mark x t true)) (tested (mark x t false))
      where
        tested : (m : Mark) → Standing s U m ↔ T (stands U m)
        tested m = (λ i. is_stands U m ((standing_plain m).0 i), λ i. (standing_plain m).1 (stands_is U m i))
