-- An accepted sheet and the lent table: what is known of the sheet's numbers, and each answer of comparing the two.
-- Assumes nothing.
use mathlib.Core.Path.{◌≡◌, refl, sym, ap, ◌∙◌, subst}
use mathlib.Core.Bool.{Bool, true, false, and-eq-true_iff}
use mathlib.Core.List.{List}
use mathlib.Core.Logic.{◌↔◌}
use Prim.Native.Nat.{ℕ, ◌*◌, ◌≤◌}
use native.Mathlib.Nat.{mul-le-mul}
use native.Mathlib.Omega.{arith}
use borrow.Author.Tests.{leb-true}
use lib.Dec.{leb}
use lib.ListN.{length}
use Rattle.spec_limits.specs.Limits.{most_ticks, most_hidden, most_rows}
use Rattle.read_bytes.specs.Read.{Read}
use Rattle.read_bytes.specs.Read.Read.{got, refused as unread}
use Rattle.read_bytes.specs.Bytes.{pick}
use Rattle.spec_tilco.specs.Lists.{All, total}
use Rattle.spec_tilco.proofs.Lists.{all_weaker}
use Rattle.spec_tilco.specs.Formula.{hiddens}
use Rattle.spec_tilco.specs.Lowering.{row_count_lem}
use Rattle.spec_tilco.specs.Table.{words, Stands, table_words, Inside}
use Rattle.table_marks.specs.Sizes.{most_words, most_table_words}
use Rattle.read_sheet.specs.Sheet.{Contents, sheet_of, meant}
use Rattle.read_head.specs.SheetHead.{Sizes}
use Rattle.read_head.proofs.Heads.{head_past}
use Rattle.read_sheet.proofs.Wholes.{sheet_head, sheet_sizes}
use Rattle.open_sheet.specs.Results.{accepted, refused}
use Rattle.open_sheet.specs.SheetIn.{fits, sized, sheet_in}
use Rattle.open_table.specs.Opens.{Opens}
use Rattle.open_sheet.specs.OpenedSheet.{OpenedSheet}
use Rattle.open_table.specs.Opens.Opens.{both, not_the_length, not_inside}

pub accepted_one : {A : Type 0} {x y : A} → accepted x ≡ accepted y → x ≡ y
accepted_one e = cc

pub accepted_refused : {A : Type 0} {x : A} {n p : ℕ} → accepted x ≡ refused n p → ⊥
accepted_refused e = let z : ◌≡◌ {A = ℕ} 0 1 = cc in omega arith

-- What is known of an accepted sheet.
pub record InSheet (s : List ℕ) (k : Contents) : Type 0 where
  pub place : ℕ
  pub reads : sheet_of s ≡ got k place
  pub hidden : total hiddens k.rules ≤ most_hidden
  pub rows : row_count_lem (meant k) ≤ most_rows
  pub count : ℕ
  pub sizes : Sizes k.window (length k.places) count

module _ (s : List ℕ) {k : Contents} where
  of_fitting : (x : Contents) (q : ℕ) → sheet_of s ≡ got x q → (b : Bool) → fits (meant x) ≡ b → pick b (λ _. accepted x) (refused 9 0) ≡ accepted k → InSheet s k
  unfolding fits
  of_fitting x q f true g h =
      let y : x ≡ k = accepted_one h in
      let r : sheet_of s ≡ got k q = f ∙ ap (λ (z : Contents). got z q) y in
      let t = (and-eq-true_iff (leb (total hiddens x.rules) most_hidden) (leb (row_count_lem (meant x)) most_rows)).0 g in
      record {
        place = q;
        reads = r;
        hidden = subst (λ (z : Contents). total hiddens z.rules ≤ most_hidden) y (leb-true (total hiddens x.rules) most_hidden t.0);
        rows = subst (λ (z : Contents). row_count_lem (meant z) ≤ most_rows) y (leb-true (row_count_lem (meant x)) most_rows t.1);
        count = (sheet_sizes s r).0;
        sizes = (sheet_sizes s r).1;
      }
  of_fitting x q f false g h = absurd (accepted_refused (sym h))

  of_read : (r : Read Contents) → sheet_of s ≡ r → sized r ≡ accepted k → InSheet s k
  of_read (got x q) f g = of_fitting x q f (fits (meant x)) refl g
  of_read (unread n p) f g = absurd (accepted_refused (sym g))

  pub in_sheet : sheet_in s ≡ accepted k → InSheet s k
  unfolding sheet_in
  in_sheet e = of_read (sheet_of s) refl e

-- Its names stand in the text.
pub names_stand : (s : List ℕ) {k : Contents} → sheet_in s ≡ accepted k → All (λ p. p ≤ length s) k.places
names_stand s {k} e =
    let h = head_past s (sheet_head s (in_sheet s e).reads).2 in
    all_weaker (λ p. p ≤ _) (λ p. p ≤ length s) (λ p l. omega (arith, h.inside)) k.places h.before

-- ---- the numbers of a sheet that stands ready

module _ {s places B tops : List ℕ} {w t count : ℕ} (k : OpenedSheet s places B tops w t count) where
  abbrev known : InSheet s k.contents
  known = in_sheet s k.holds

  pub window_range : (1 ≤ w) × (w ≤ most_ticks)
  window_range = (omega (arith, k.window_is, known.sizes.window_low), omega (arith, k.window_is, known.sizes.window_high))

  pub row_range : count ≤ most_rows
  row_range = omega (arith, k.rows, known.rows)

-- ---- the words of a row, in a window that 01 allows

-- n words for each value cover a window of w ticks: at least one, and no more than the widest window has.
pub record RowWords (w n : ℕ) : Type 0 where
  pub some : 1 ≤ n
  pub most : n ≤ most_words
  pub cover : w ≤ 64 * n

pub row_words : {w n : ℕ} → 1 ≤ w → w ≤ most_ticks → n ≡ words w → RowWords w n
unfolding words
row_words l h e = record { some = omega arith; most = omega arith; cover = omega arith }

-- The words of a table with so many rows can be counted.
pub table_most : {count n : ℕ} → count ≤ most_rows → n ≤ most_words → 2 * count * n ≤ most_table_words
table_most {count} c h = let r : 2 * count ≤ 2 * most_rows = omega arith in mul-le-mul r h

-- ---- the table beside it

-- The words of an opened sheet's table can be counted.
pub words_most : {s places B tops : List ℕ} {w t count : ℕ} → OpenedSheet s places B tops w t count → (n : ℕ) → n ≡ words w
    → (w ≤ most_ticks) × (2 * count ≤ 2 * most_rows) × (2 * count * n ≤ most_table_words)
words_most y n e =
    let spread = row_words (window_range y).0 (window_range y).1 e in
    ((window_range y).1, omega (arith, row_range y), table_most (row_range y) spread.most)

module _ {s places B tops : List ℕ} {w t count : ℕ} (k : OpenedSheet s places B tops w t count) (T : List ℕ) (n : ℕ) (e : n ≡ words w) where
  same_words : 2 * count * n ≡ table_words (meant k.contents)
  same_words =
      ap (λ (c : ℕ). 2 * c * n) k.rows ∙ ap (λ (m : ℕ). 2 * row_count_lem (meant k.contents) * m) (e ∙ ap words k.window_is)

  same_marks : Inside w (Stands n T) ↔ Inside k.contents.window (Stands (words k.contents.window) T)
  same_marks =
      let f : n ≡ words k.contents.window = e ∙ ap words k.window_is in (
        λ i. subst (λ (m : ℕ). Inside k.contents.window (Stands m T)) f (subst (λ (v : ℕ). Inside v (Stands n T)) k.window_is i),
        λ i. subst (λ (v : ℕ). Inside v (Stands n T)) (sym k.window_is) (subst (λ (m : ℕ). Inside k.contents.window (Stands m T)) (sym f) i),
      )

  pub wrong_length : (length T ≡ 2 * count * n → ⊥) → Opens s T (refused 15 0)
  wrong_length f = not_the_length k.holds (λ l. f (l ∙ sym same_words))

  module _ (l : length T ≡ 2 * count * n) where
    pub outside : (Inside w (Stands n T) → ⊥) → Opens s T (refused 16 0)
    outside f = not_inside k.holds (l ∙ same_words) (λ i. f (same_marks.1 i))

    pub within : Inside w (Stands n T) → Opens s T (accepted k.contents)
    within i = both k.holds (l ∙ same_words) (same_marks.0 i)
