-- The words of a row from word q on: the ones in them, and the first marked tick.
-- Assumes that a word is below 2 ^ 64.
use mathlib.Core.Path.{◌≡◌, sym, ap, ◌∙◌, subst}
use mathlib.Core.Bool.{true, false}
use mathlib.Core.List.{List}
use mathlib.Core.Logic.{⊎_elim}
use Prim.Native.Nat.{ℕ, suc, ◌+◌, ◌-◌, ◌*◌, ◌^◌, ◌<◌, ◌≤◌}
use native.Mathlib.Omega.{arith}
use lib.Bits.{bit_or, or_lt}
use lib.Count.{ones, ones-le, count_trailing_zeros}
use lib.ListN.{get_or}
use Rattle.spec_ticks.specs.Ticks.{Has, block}
use Rattle.spec_ticks.proofs.Bits.{lt_or_ge, has_below, no_ticks}
use Rattle.spec_ticks.proofs.Counts.{first_has, below_first}
use Rattle.spec_tilco.specs.Inference.{mark}
use Rattle.spec_tilco.specs.Table.{Stands}
use Rattle.table_words.specs.WordTicks.{Ticks}
use Rattle.table_words.proofs.OneWord.{either_ticks, read_ticks}
use Rattle.spec_figures.specs.Records.{no_tick, Earliest}
use Rattle.spec_figures.specs.Records.Earliest.{earliest, none}
use Rattle.figure_run.specs.declared.counts.RowTicks.{RowTicks}
use Rattle.figure_run.specs.RunCounts.{ones_from, Marked, RowCounted}
use Rattle.figure_run.proofs.Earliest.{earliest_same}

-- The row's marked ticks from word q on.
abbrev pub MarkedFrom : ℕ → List ℕ → ℕ → ℕ → ℕ → Type 0
MarkedFrom n T row q t = (q * 64 ≤ t) × Marked n T row t

-- What is counted of a row's words from word q on.
pub record CountedFrom (n : ℕ) (T : List ℕ) (row q held failed first : ℕ) : Type 0 where
  pub within : q ≤ n
  pub held_are : held ≡ ones_from T (block row true * n + q) (n - q)
  pub failed_are : failed ≡ ones_from T (block row false * n + q) (n - q)
  pub held_small : held ≤ 64 * (n - q)
  pub failed_small : failed ≤ 64 * (n - q)
  pub first_is : Earliest (MarkedFrom n T row q) first

-- The ones in one word more, the one before.
ones_more : (T : List ℕ) (b n p q x w : ℕ) → p ≡ q + 1 → p ≤ n → x ≡ ones_from T (b + p) (n - p) → w ≡ get_or T (b + q) 0 → x + ones w ≡ ones_from T (b + q) (n - q)
unfolding ones_from
ones_more T b n p q x w e l f g =
    let s : n - q ≡ suc (n - p) = omega arith in
    let c : b + p ≡ suc (b + q) = omega arith in
    rw s (omega (arith, f, ap ones g, ap (λ (k : ℕ). ones_from T k (n - p)) c))

module _ (n : ℕ) (T : List ℕ) (row : ℕ) where
  -- Before the first word that is looked at.
  pub counted_none : (held failed first : ℕ) → held ≡ 0 → failed ≡ 0 → first ≡ no_tick → CountedFrom n T row n held failed first
  unfolding ones_from
  counted_none held failed first e f g =
      let z : n - n ≡ 0 = omega arith in record {
        within = omega arith;
        held_are = rw z e;
        failed_are = rw z f;
        held_small = omega arith;
        failed_small = omega arith;
        first_is = subst (Earliest (MarkedFrom n T row n)) (sym g) (none (λ t m. ⊎_elim (λ i. omega (arith, i.within)) (λ i. omega (arith, i.within)) m.1));
      }

  -- After the last.
  pub counted_all : (r : RowTicks) (q : ℕ) → q ≡ 0 → CountedFrom n T row q r.held r.failed r.first → RowCounted n T row r
  counted_all r q e k =
      let whole : n - q ≡ n = omega arith in
      let a : block row true * n + q ≡ block row true * n = omega arith in
      let b : block row false * n + q ≡ block row false * n = omega arith in record {
        held_are = k.held_are ∙ rw (whole, a);
        failed_are = k.failed_are ∙ rw (whole, b);
        first_is = earliest_same (λ t m. m.1) (λ t m. (omega arith, m)) k.first_is;
      }

  module _ (p q : ℕ) (v w : ℕ) (step : p ≡ q + 1) (l : p ≤ n) (is-yes : v ≡ get_or T (block row true * n + q) 0) (is-no : w ≡ get_or T (block row false * n + q) 0) (small-yes : v < 2 ^ 64)
      (small-no : w < 2 ^ 64) where
    -- the ticks of the two words
    marked : Ticks q (bit_or v w) (Marked n T row)
    marked =
        either_ticks q v w (λ t. Stands n T (mark row t true)) (λ t. Stands n T (mark row t false)) (read_ticks n T row true q (omega arith) is-yes) (read_ticks n T row false q (omega arith) is-no)

    -- a marked tick of this word
    in_word : (t : ℕ) → q * 64 ≤ t → t < p * 64 → Marked n T row t → Has (bit_or v w) (t - q * 64)
    in_word t a b m = let e : t ≡ q * 64 + (t - q * 64) = omega arith in (marked (t - q * 64) (omega arith)).1 (subst (Marked n T row) e m)

    first_here : (bit_or v w ≡ 0 → ⊥) → Earliest (MarkedFrom n T row q) (64 * q + count_trailing_zeros 64 (bit_or v w))
    first_here some =
        let u : bit_or v w < 2 ^ 64 = or_lt 64 v w small-yes small-no in
        let z : ℕ = count_trailing_zeros 64 (bit_or v w) in
        let h : Has (bit_or v w) z = first_has 64 (bit_or v w) (omega (arith, some)) u in
        let b : z < 64 = has_below (bit_or v w) 64 z u h in
        let e : q * 64 + z ≡ 64 * q + z = omega arith in
        earliest (64 * q + z) (omega arith, subst (Marked n T row) e ((marked z b).0 h))
        (λ t a m. omega (arith, in_word t m.0 (omega arith) m.1, below_first 64 (bit_or v w) (t - q * 64) (omega (arith, m.0))))

    first_later : {first : ℕ} → bit_or v w ≡ 0 → Earliest (MarkedFrom n T row p) first → Earliest (MarkedFrom n T row q) first
    first_later none_here = earliest_same (λ t m. (omega (arith, m.0), m.1)) back
      where
        back : (t : ℕ) → MarkedFrom n T row q t → MarkedFrom n T row p t
        back t m =
            ⊎_elim (λ b. absurd (omega (arith, no_ticks (t - q * 64), subst (λ (x : ℕ). Has x (t - q * 64)) none_here (in_word t m.0 b m.1)))) (λ b. (b, m.1)) (lt_or_ge t (p * 64))

    module _ {held failed first : ℕ} (k : CountedFrom n T row p held failed first) where
      with_first : (new : ℕ) → Earliest (MarkedFrom n T row q) new → CountedFrom n T row q (held + ones v) (failed + ones w) new
      with_first new e = record {
        within = omega arith;
        held_are = ones_more T (block row true * n) n p q held v step l k.held_are is-yes;
        failed_are = ones_more T (block row false * n) n p q failed w step l k.failed_are is-no;
        held_small = omega (arith, k.held_small, ones-le 64 v small-yes);
        failed_small = omega (arith, k.failed_small, ones-le 64 w small-no);
        first_is = e;
      }

      -- One word more, with a mark in it or with none.
      pub counted_marked : (bit_or v w ≡ 0 → ⊥) → CountedFrom n T row q (held + ones v) (failed + ones w) (64 * q + count_trailing_zeros 64 (bit_or v w))
      counted_marked some = with_first (64 * q + count_trailing_zeros 64 (bit_or v w)) (first_here some)

      pub counted_unmarked : bit_or v w ≡ 0 → CountedFrom n T row q (held + ones v) (failed + ones w) first
      counted_unmarked none_here = with_first first (first_later none_here k.first_is)
