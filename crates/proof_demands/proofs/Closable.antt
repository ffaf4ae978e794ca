-- Every table of the right length with no mark outside the window can be closed: missing marks are put one by one, and the words have ever less room.
-- Assumes that every name is declared.
use mathlib.Core.Path.{◌≡◌, refl, sym, ap, ◌∙◌, subst}
use mathlib.Core.Bool.{Bool}
use mathlib.Core.List.Memᴰ
use mathlib.Core.List.{List, [], ◌∷◌}
use mathlib.Core.Logic.{◌⊎◌, inl, inr, ⊎_elim}
use Prim.Native.Nat.{ℕ, zero, suc, ◌+◌, ◌*◌, ◌/◌, ◌%◌, ◌^◌, ◌<◌, ◌≤◌}
use native.Mathlib.Nat.{mul-le-mul_right, suc-mul}
use native.Mathlib.Decide.{ℕ_discrete, dec_lt}
use native.Mathlib.Omega.{arith}
use lib.Bits.{bit_or, or_lt}
use lib.ListN.{length, get_or, set, get_or-eq_default}
use lib.Pow.{pow-lt}
use lib.Seq.{set-get_or, get_or-set_same, get_or-set_other}
use Rattle.spec_ticks.specs.Ticks.{block, Small}
use Rattle.spec_ticks.proofs.Tables.{block_low, block_high}
use Rattle.spec_tilco.specs.Lists.{All}
use Rattle.spec_tilco.specs.Formula.{Sheet, signal_rows, Declared}
use Rattle.spec_tilco.specs.Inference.{Node, signal, not_of, gate, look, node, Mark, mark, Marks, One, down_left, down_right, up_left, up_right, look_down, look_up, not_down, not_up, Two, up_both, rest_right, rest_left, start, top, one, two, ◌or◌}
use Rattle.spec_tilco.specs.Lowering.{program, row_count_lem}
use Rattle.spec_tilco.specs.Table.{words, Stands, Standing, table_words, Inside, ReadMarks, InRange, Leads, Added}
use Rattle.spec_tilco.proofs.Lists.{all_at}
use Rattle.spec_tilco.proofs.Derives.{stays_inside}
use Rattle.spec_tilco.proofs.Order.{Ordered, row_count, children_before, top_is_row}
use Rattle.table_marks.proofs.Marks.{puts_word}
use Rattle.table_marks.specs.Puts.{Puts}
use Rattle.table_words.specs.WordTicks.{room}
use Rattle.table_words.proofs.Gaining.{joins_some}
use Rattle.proof_demands.proofs.Deciding.{stands_at}
use Rattle.proof_demands.proofs.Missing.{Missing, closed_or_missing}

-- ---- no chain leaves the rows

-- A row that is no signal is one of N rows.
abbrev Real : ℕ → ℕ → Node → Type 0
Real N r signal = Unit {0}
Real N r (not_of x) = r < N
Real N r (gate u a b) = r < N
Real N r (look k c) = r < N

abbrev Low : ℕ → Mark → Type 0
Low N (mark r t v) = r < N

module _ (s : Sheet) (declared : Declared s) where
  real : (r : ℕ) → Real (row_count_lem s) r (node (program s) r)
  real r = go (dec_lt r (row_count_lem s))
    where
      here : (d : Node) → r < row_count_lem s → Real (row_count_lem s) r d
      here signal h = tt
      here (not_of x) h = h
      here (gate u a b) h = h
      here (look k c) h = h

      go : Dec (r < row_count_lem s) → Real (row_count_lem s) r (node (program s) r)
      go (yes h) = here (node (program s) r) h
      go (no h) = let e : node (program s) r ≡ signal = get_or-eq_default (program s).rows signal (omega arith) in subst (Real (row_count_lem s) r) (sym e) tt

  is_row : (r : ℕ) {d : Node} → node (program s) r ≡ d → Real (row_count_lem s) r d
  is_row r e = subst (Real (row_count_lem s) r) e (real r)

  children : (r : ℕ) {d : Node} → node (program s) r ≡ d → Ordered (signal_rows s) r d
  children r e = subst (Ordered (signal_rows s) r) e (children_before s declared r)

  one_low : {W : ℕ} {p m : Mark} → One (program s) W p m → Low (row_count_lem s) p → Low (row_count_lem s) m
  one_low (down_left {r} e) l = omega (arith, (children r e).0)
  one_low (down_right {r} e) l = omega (arith, (children r e).1)
  one_low (up_left {r} e) l = is_row r e
  one_low (up_right {r} e) l = is_row r e
  one_low (look_down {r} e z h k) l = omega (arith, children r e)
  one_low (look_up {r} e z h k) l = is_row r e
  one_low (not_down {r} e) l = omega (arith, (children r e).1)
  one_low (not_up {r} e) l = is_row r e

  two_low : {p q m : Mark} → Two (program s) p q m → Low (row_count_lem s) p → Low (row_count_lem s) m
  two_low (up_both {r} e) l = is_row r e
  two_low (rest_right {r} e) l = omega (arith, (children r e).1)
  two_low (rest_left {r} e) l = omega (arith, (children r e).0)

  -- From marks in the rows the rules lead to no other row.
  stays_low : {S : Marks} → ((m : Mark) → S m → Low (row_count_lem s) m) → {m : Mark} → Leads s S m → Low (row_count_lem s) m
  stays_low f (start {m} i) = f m i
  stays_low f (top {r} i h) = top_is_row s declared r i
  stays_low f (one x d) = one_low x (stays_low f d)
  stays_low f (two x d e) = two_low x (stays_low f d)

-- A table of N rows has marks in these only.
stands_low : (n N : ℕ) (T : List ℕ) → length T ≡ 2 * N * n → (m : Mark) → Stands n T m → Low N m
stands_low n N T e (mark r t v) i = go (dec_lt r N)
  where
    go : Dec (r < N) → r < N
    go (yes h) = h
    go (no h) =
        let far : 2 * N * n ≤ block r v * n = mul-le-mul_right n (block_low N r v (omega arith)) in
        absurd (omega (arith, stands_at n T r t v i))

-- ---- one mark put

pub small_set : (U : List ℕ) (i w : ℕ) → i < length U → w < 2 ^ 64 → Small 64 U → Small 64 (set U i w)
small_set U i w h l small j = go (ℕ_discrete j i)
  where
    go : Dec (j ≡ i) → get_or (set U i w) j 0 < 2 ^ 64
    go (yes e) = subst (λ (x : ℕ). x < 2 ^ 64) (sym (ap (λ (x : ℕ). get_or (set U i w) x 0) e ∙ get_or-set_same U i w 0 h)) l
    go (no e) = subst (λ (x : ℕ). x < 2 ^ 64) (sym (get_or-set_other U i j w 0 e)) (small j)

-- The mark is put, and the words have less room.
record Put (n : ℕ) (m : Mark) (U : List ℕ) : Type 0 where
  table : List ℕ
  puts : Puts n (m ∷ []) U table
  small : Small 64 table
  less : room table < room U

put_one : (n : ℕ) (U : List ℕ) (r t : ℕ) (v : Bool) → t < n * 64 → 2 * (r + 1) * n ≤ length U → Small 64 U → (Stands n U (mark r t v) → ⊥) → Put n (mark r t v) U
put_one n U r t v h l small out = record {
  table = set U i w;
  puts = puts;
  small = small_set U i w inside (or_lt 64 (get_or U i 0) (2 ^ (t % 64)) (small i) one_bit) small;
  less = (joins_some n U r v (t / 64) (2 ^ (t % 64)) (omega arith) i refl inside (small i) one_bit new).tells.less_room (omega arith);
}
  where
    i : ℕ
    i = block r v * n + t / 64

    w : ℕ
    w = bit_or (get_or U i 0) (2 ^ (t % 64))

    one_bit : 2 ^ (t % 64) < 2 ^ 64
    one_bit = let h : t % 64 < 64 = omega arith in pow-lt h

    inside : i < length U
    inside = let b : suc (block r v) * n ≤ 2 * (r + 1) * n = mul-le-mul_right n (omega (arith, block_high r v)) in omega (arith, suc-mul (block r v) n)

    puts : Puts n (mark r t v ∷ []) U (set U i w)
    puts = puts_word n U r t v h i w refl inside refl

    new : w ≡ get_or U i 0 → ⊥
    new e = out (subst (λ (X : List ℕ). Stands n X (mark r t v)) (ap (set U i) e ∙ set-get_or U i 0) ((puts.exactly (mark r t v)).1 (inr (Memᴰ.head refl))))

-- ---- until none is missing

pub covers : (W : ℕ) → W ≤ words W * 64
unfolding words
covers W = omega arith

-- On the way from T with the readings R.
record Toward (s : Sheet) (T : List ℕ) (R : List Mark) (U : List ℕ) : Type 0 where
  size : length U ≡ length T
  small : Small 64 U
  only : (m : Mark) → Standing s U m → Leads s (◌or◌ (Standing s T) (ReadMarks R)) m
  kept : (m : Mark) → Standing s T m → Standing s U m

module _ (s : Sheet) (declared : Declared s) (T : List ℕ) (R : List Mark) (long : length T ≡ table_words s) (in_window : Inside s.window (Standing s T)) (read : All (InRange s) R) where
  abbrev S : Marks
  S = ◌or◌ (Standing s T) (ReadMarks R)

  low : (m : Mark) → ◌or◌ (Standing s T) (ReadMarks R) m → Low (row_count_lem s) m
  low m (inl i) = stands_low (words s.window) (row_count_lem s) T long m i
  low (mark x t v) (inr i) = omega (arith, row_count s, (all_at (InRange s) R read (mark x t v) i).0)

  begun : Inside s.window S
  begun r t v (inl i) = in_window r t v i
  begun r t v (inr i) = (all_at (InRange s) R read (mark r t v) i).1

  -- The missing mark put.
  nearer : (U : List ℕ) → Toward s T R U → (m : Mark) → Leads s S m → (Standing s U m → ⊥) → (X : List ℕ) × Toward s T R X × (room X < room U)
  nearer U g (mark r t v) led out =
      let l : r < row_count_lem s = stays_low s declared low led in
      let h : t < s.window = stays_inside begun r t v led in
      let wide : 2 * (r + 1) * words s.window ≤ 2 * row_count_lem s * words s.window = mul-le-mul_right (words s.window) (omega arith) in
      let p = put_one (words s.window) U r t v (omega (arith, covers s.window)) (omega (arith, g.size)) g.small out in (
        p.table,
        record {
          size = p.puts.size ∙ g.size;
          small = p.small;
          only = λ m i. ⊎_elim (g.only m) (λ j. ⊎_elim (λ e. subst (Leads s S) (sym e) led) (λ k. absurd (Memᴰ.not-nil k)) (Memᴰ.cases_cons j)) ((p.puts.exactly m).0 i);
          kept = λ m i. (p.puts.exactly m).1 (inl (g.kept m i));
        },
        p.less,
      )

  none_missing : (U : List ℕ) → Toward s T R U → ((X : List ℕ) × Added s T R X) ⊎ Missing (program s) s.window (words s.window) S U
  none_missing U g =
      ⊎_elim (λ e. inl (U, record { size = g.size; small = g.small; exactly = e })) inr
      (closed_or_missing (program s) s.window (words s.window) T R U g.only (λ r t v i. stays_inside begun r t v (g.only (mark r t v) i)) g.kept)

  closes : (most : ℕ) (U : List ℕ) → room U ≤ most → Toward s T R U → (X : List ℕ) × Added s T R X
  closes zero U h g = ⊎_elim (λ x. x) (λ z. absurd (omega (arith, (nearer U g z.at z.led z.absent).2))) (none_missing U g)
  closes (suc most) U h g =
      ⊎_elim (λ x. x) (λ z. let x = nearer U g z.at z.led z.absent in closes most x.0 (omega (arith, x.2)) x.1) (none_missing U g)

  -- The table can be closed.
  pub can_be_added : Small 64 T → (U : List ℕ) × Added s T R U
  can_be_added small = closes (room T) T (omega arith) (record { size = refl; small = small; only = λ m i. start (inl i); kept = λ m i. i })
