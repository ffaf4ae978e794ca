-- Formulas lowered in turn: one, none, and some after others.
-- Assumes nothing.
use mathlib.Core.Path.{◌≡◌, refl, sym, ap, ap₂, ◌∙◌}
use mathlib.Core.Bool.{true}
use mathlib.Core.List.{List, [], ◌∷◌, ◌++◌, map, map-append, append-nil}
use Prim.Native.Nat.{ℕ, suc, ◌+◌, ◌≤◌}
use native.Mathlib.Nat.{add-zero}
use native.Mathlib.Omega.{arith}
use lib.ListN.{length, set, length-append, length-map, length-set}
use lib.Seq.{sets}
use Rattle.spec_tilco.specs.Formula.{Formula}
use Rattle.spec_tilco.specs.Inference.{Node}
use Rattle.spec_tilco.specs.Lowering.{BTL, size, rows_of, top_of, rows_all, tops_all, lowered, lows}
use Rattle.spec_tilco.proofs.Lists.{total_append, laid_append}
use Rattle.spec_tilco.proofs.Rows.{length_rows, length_rows_all}
use Rattle.lower_rows.specs.RowCodes.{row_code}
use Rattle.lower_rows.specs.RowWrites.{WroteRows, Lowers}
use Rattle.lower_rule.specs.RuleRows.{Buffers, buffers, WentAll, LowersAll}
use Rattle.lower_rows.specs.declared.words.Lowered.{Lowered}
use Rattle.lower_rule.specs.declared.rules.InUse.{InUse}
use Rattle.std.specs.Prelude.{Option, Some, None}
use Rattle.lower_rows.proofs.Runs.{sets_append}

-- As many tops as formulas.
pub tops_length : (cs : List BTL) (b : ℕ) → length (tops_all cs b) ≡ length cs
tops_length [] b = refl
tops_length (c ∷ cs) b = ap suc (tops_length cs (b + size c))

-- So many tops and so many rows are in use.
abbrev pub in_use : ℕ → ℕ → InUse
in_use at used = record { tops = at; rows = used }

-- What is known where formulas' rows fit.
pub went_all : {cs : List BTL} {b k : ℕ} {B B₁ : Buffers} {u : InUse} → LowersAll cs b k B B₁ (Some u) → WentAll cs b k B B₁ u.tops u.rows
unfolding LowersAll
went_all w = w

-- No formula.
pub all_none : (b k : ℕ) (B : Buffers) → b ≤ length B.rows → LowersAll [] b k B B (Some (in_use k b))
unfolding LowersAll
all_none b k B h = record {
  tops = sym (add-zero k);
  next = sym (add-zero b);
  room = h;
  rows = refl;
  holds = refl;
  long = refl;
  wide = refl;
}

-- One formula was tried.
module _ (c : BTL) (b : ℕ) (m m₁ : List ℕ) (k : ℕ) (ts : List ℕ) where
  pub one_full : Lowers c b m m₁ None → LowersAll (c ∷ []) b k (buffers m ts) (buffers m₁ ts) None
  unfolding LowersAll Lowers WroteRows
  one_full h = record { over = omega (arith, h.over, length-map (rows_of c b) row_code, length_rows c b); long = h.long }

  pub one_then : (v : Lowered) → Lowers c b m m₁ (Some v) → LowersAll (c ∷ []) b k (buffers m ts) (buffers m₁ (set ts k v.row)) (Some (in_use (k + 1) v.used))
  unfolding LowersAll Lowers WroteRows
  one_then v h = record {
    tops = refl;
    next = omega (arith, h.next, length-map (rows_of c b) row_code, length_rows c b);
    room = h.room;
    rows = h.holds ∙ ap (λ (l : List Node). sets m b (map row_code l)) (sym (append-nil (rows_of c b)));
    holds = ap (set ts k) h.top;
    long = h.long;
    wide = length-set ts k v.row;
  }

-- Some formulas were tried, others follow.
module _ (cs ds : List BTL) (b k : ℕ) (B B₁ : Buffers) where
  pub all_full : (ts₂ : List ℕ) → LowersAll cs b k B B₁ None → LowersAll (cs ++ ds) b k B (buffers B₁.rows ts₂) None
  unfolding LowersAll
  all_full ts₂ h = record { over = omega (arith, h.over, total_append size cs ds); long = h.long }

  module _ (u : InUse) (w : LowersAll cs b k B B₁ (Some u)) (B₂ : Buffers) where
    abbrev W : WentAll cs b k B B₁ u.tops u.rows
    W = went_all w

    pub all_then : (r : Option InUse) → LowersAll ds u.rows u.tops B₁ B₂ r → LowersAll (cs ++ ds) b k B B₂ r
    unfolding LowersAll
    all_then (Some v) h = record {
      tops = omega (arith, h.tops, W.tops, length-append cs ds);
      next = omega (arith, h.next, W.next, total_append size cs ds);
      room = omega (arith, h.room, W.long);
      rows = h.rows ∙ rows;
      holds = h.holds ∙ tops;
      long = h.long ∙ W.long;
      wide = h.wide ∙ W.wide;
    }
      where
        rows : sets B₁.rows u.rows (map row_code (rows_all ds u.rows)) ≡ sets B.rows b (map row_code (rows_all (cs ++ ds) b))
        rows =
            let n : u.rows ≡ b + length (map row_code (rows_all cs b)) = omega (arith, W.next, length-map (rows_all cs b) row_code, length_rows_all cs b) in
            ap₂ (λ (l : List ℕ) (i : ℕ). sets l i (map row_code (rows_all ds u.rows))) W.rows n
            ∙ sets_append B.rows b (map row_code (rows_all cs b)) (map row_code (rows_all ds u.rows))
            ∙ ap (sets B.rows b) (sym (map-append row_code (rows_all cs b) (rows_all ds u.rows)) ∙ ap (map row_code) (sym (laid_append size rows_of cs ds b u.rows W.next)))

        tops : sets B₁.tops u.tops (tops_all ds u.rows) ≡ sets B.tops k (tops_all (cs ++ ds) b)
        tops =
            let n : u.tops ≡ k + length (tops_all cs b) = omega (arith, W.tops, tops_length cs b) in
            ap₂ (λ (l : List ℕ) (i : ℕ). sets l i (tops_all ds u.rows)) W.holds n
            ∙ sets_append B.tops k (tops_all cs b) (tops_all ds u.rows)
            ∙ ap (sets B.tops k) (sym (laid_append size (λ c i. top_of c i ∷ []) cs ds b u.rows W.next))
    all_then None h = record { over = omega (arith, h.over, W.next, W.long, total_append size cs ds); long = h.long ∙ W.long }

-- A formula was tried, and none follows.
pub one_alone : (f : Formula) (fs : List Formula) → length fs ≡ 0 → (b k : ℕ) (B B₁ : Buffers) (r : Option InUse)
    → LowersAll (lows (f ∷ [])) b k B B₁ r → LowersAll (lows (f ∷ fs)) b k B B₁ r
one_alone f [] e b k B B₁ r w = w
one_alone f (g ∷ gs) e b k B B₁ r w = absurd (omega arith)

-- The same of formulas before they are lowered: some were tried, others follow.
module _ (fs gs : List Formula) (b k : ℕ) (B B₁ : Buffers) where
  pub rules_full : (ts₂ : List ℕ) → LowersAll (lows fs) b k B B₁ None → LowersAll (lows (fs ++ gs)) b k B (buffers B₁.rows ts₂) None
  rules_full ts₂ w = rw map-append (all_full (lows fs) (lows gs) b k B B₁ ts₂ w)

  module _ (u : InUse) (w : LowersAll (lows fs) b k B B₁ (Some u)) where
    pub rules_then : (B₂ : Buffers) (r : Option InUse) → LowersAll (lows gs) u.rows u.tops B₁ B₂ r → LowersAll (lows (fs ++ gs)) b k B B₂ r
    rules_then B₂ r h = rw map-append (all_then (lows fs) (lows gs) b k B B₁ u w B₂ r h)

    -- The tops of the others start after those of the first.
    pub rules_tops : (n : ℕ) → k + length (fs ++ gs) ≤ n → u.tops + length gs ≤ n
    rules_tops n h = omega (arith, (went_all w).tops, length-map fs (lowered true), length-append fs gs)
