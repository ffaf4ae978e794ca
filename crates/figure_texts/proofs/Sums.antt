-- Numbers added up: the sum of the first i, of one more, and of all; and whether lengths fit a slice, by what is left of it.
-- Assumes nothing. ns are the numbers.
use mathlib.Core.Path.{◌≡◌, sym, ap, ◌∙◌}
use mathlib.Core.Bool.{true, false}
use mathlib.Core.List.{List}
use mathlib.Core.Logic.{◌↔◌}
use Prim.Native.Nat.{ℕ, ◌+◌, ◌<◌, ◌≤◌}
use native.Mathlib.Omega.{arith}
use native.Mathlib.Numerals.{add-one}
use borrow.Author.Tests.{eqb-true, eq-eqb}
use lib.Dec.{eqb}
use lib.ListN.{length, get_or, take, drop, take-append-drop, length-take}
use lib.Seq.{take-suc, take_all, take-take, drop-cons, get_or-take}
use Rattle.spec_limits.specs.Limits.{most_runs}
use Rattle.spec_tilco.specs.Lists.{total}
use Rattle.spec_tilco.proofs.Lists.{total_append}
use Rattle.spec_figures.specs.Texts.{LengthsFit}
use Rattle.figure_texts.specs.Notes.{sum_to}

-- The first i and the others are all of them.
sum_and_rest : (ns : List ℕ) (i : ℕ) → sum_to ns i + total (λ n. n) (drop i ns) ≡ total (λ n. n) ns
sum_and_rest ns i = sym (total_append (λ n. n) (take i ns) (drop i ns)) ∙ ap (total (λ n. n)) (take-append-drop i ns)

sum_all : (ns : List ℕ) (i : ℕ) → length ns ≤ i → sum_to ns i ≡ total (λ n. n) ns
sum_all ns i h = rw (take_all i ns h)

module _ (ns : List ℕ) (i : ℕ) (h : i < length ns) where
  -- One more is added,
  pub sum_more : sum_to ns (i + 1) ≡ sum_to ns i + get_or ns i 0
  sum_more = rw (add-one, take-suc ns i 0 h, total_append) (omega arith)

  -- and all are no less than that.
  sum_within : sum_to ns i + get_or ns i 0 ≤ total (λ n. n) ns
  sum_within = let z = ap (total (λ n. n)) (drop-cons ns i 0 h) in omega (arith, sum_and_rest ns i)

-- A number ends no later than a later one starts.
pub sum_later : (ns : List ℕ) (k i : ℕ) → k < i → k < length ns → sum_to ns k + get_or ns k 0 ≤ sum_to ns i
sum_later ns k i h l =
    let n : get_or (take i ns) k 0 ≡ get_or ns k 0 = get_or-take i ns k 0 h in
    let s : sum_to (take i ns) k ≡ sum_to ns k = rw (take-take k i ns (omega arith)) in
    omega (arith, sum_within (take i ns) k (rw length-take (omega arith)))

-- ---- lengths that fit a slice of m bytes

module _ {ns : List ℕ} {m : ℕ} (f : LengthsFit ns m) where
  -- The last ends where the slice does,
  pub sum_fits : sum_to ns (length ns) ≡ m
  sum_fits = sum_all ns (length ns) (omega arith) ∙ f.whole

  -- and each within it.
  pub end_inside : (i : ℕ) → i < length ns → sum_to ns i + get_or ns i 0 ≤ m
  end_inside i h = omega (arith, f.whole, sum_within ns i h)

-- ---- whether lengths fit it

none_fit : {ns : List ℕ} {m : ℕ} → (LengthsFit ns m → ⊥) → (false ≡ true) ↔ LengthsFit ns m
none_fit h = (λ e. absurd (let z : ◌≡◌ {A = ℕ} 0 1 = cc in omega arith), λ f. absurd (h f))

-- There are too many of them.
pub too_many : {ns : List ℕ} {m : ℕ} → most_runs < length ns → (false ≡ true) ↔ LengthsFit ns m
too_many h = none_fit (λ f. let few = f.few in omega arith)

module _ (ns : List ℕ) {m : ℕ} (left i : ℕ) (taken : left + sum_to ns i ≡ m) where
  -- The next is over what is left.
  pub too_long : i < length ns → left < get_or ns i 0 → (false ≡ true) ↔ LengthsFit ns m
  too_long l h = none_fit (λ f. omega (arith, end_inside f i l))

  -- All are taken off: they fit if nothing is left.
  pub all_taken : length ns ≤ most_runs → length ns ≤ i → (eqb left 0 ≡ true) ↔ LengthsFit ns m
  all_taken few l = (
    λ e. record { few = few; whole = omega (arith, sum_all ns i l, eqb-true left 0 e) },
    λ f. eq-eqb left 0 (omega (arith, f.whole, sum_all ns i l)),
  )
