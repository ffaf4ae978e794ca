-- Items put on the list: one, several, those along a list of parents, and all that rest on a word.
-- Assumes nothing.
use mathlib.Core.Path.{◌≡◌, refl, sym, ap, ◌∙◌, subst}
use mathlib.Core.List.{List}
use mathlib.Core.Logic.{◌⊎◌, inl, inr, ⊎_elim}
use Prim.Native.Nat.{ℕ, ◌+◌, ◌*◌, ◌/◌, ◌%◌, ◌^◌, ◌≤◌, ◌<◌}
use native.Mathlib.Decide.{ℕ_discrete}
use native.Mathlib.Nat.{mul-le-mul_right, mul_comm, suc-mul}
use native.Mathlib.Omega.{arith}
use lib.Bits.{bit_or}
use lib.ListN.{length, get_or, set, length-set}
use lib.Seq.{get_or-set_same, get_or-set_other}
use Rattle.spec_ticks.specs.Ticks.{Has}
use Rattle.spec_ticks.proofs.Bits.{or_left, or_right}
use Rattle.spec_ticks.proofs.Shifts.{one_has}
use Rattle.table_marks.proofs.Marks.{one_word}
use Rattle.lower_rows.specs.RowCodes.{row_at}
use Rattle.close_list.specs.Items.{per, Bit, OnList, ListFits, Keeps, Queues, OwnItem, ItemsOf, ParentsAt, QueuesResting}
use Rattle.close_parents.specs.Links.{Reach, Falls, Linked}
use Rattle.close_parents.proofs.Linking.{reach_next, reach_end, falls_next}
use Rattle.close_list.proofs.ByKind.{rests_split}

-- A list of the same length has as much room.
pub roomy_as : {count n : ℕ} {D D' : List ℕ} → length D' ≡ length D → ListFits count n D → ListFits count n D'
roomy_as e h = record { most = h.most; long = omega (arith, e, h.long) }

-- The words of column q of a list with `stride` words a column end in it.
pub column_in : (stride n q L : ℕ) → q < n → stride * n ≤ L → q * stride + stride ≤ L
column_in stride n q L l h =
    let b : (q + 1) * stride ≤ n * stride = mul-le-mul_right stride (omega arith) in
    omega (arith, suc-mul q stride, mul_comm stride n)

-- A word of ticks has words in the list, so there are no more of the former.
pub words_few : (count n q : ℕ) (D : List ℕ) → 0 < count → q < n → ListFits count n D → q < length D
words_few count n q D some l h =
    let b : 1 * n ≤ per count * n = mul-le-mul_right n (omega arith) in
    omega (arith, h.long)

-- ---- nothing taken off
pub keeps_none : (D : List ℕ) → Keeps D D
keeps_none D = record { size = refl; kept = λ j b h. h }

pub keeps_then : {D D' D'' : List ℕ} → Keeps D D' → Keeps D' D'' → Keeps D D''
keeps_then a b = record { size = b.size ∙ a.size; kept = λ j t h. b.kept j t (a.kept j t h) }

-- An item that is to do stays to do.
pub still_to_do : (count : ℕ) {D D' : List ℕ} (r q : ℕ) → Keeps D D' → OnList count D r q → OnList count D' r q
still_to_do count r q a = a.kept (q * per count + r / 64) (r % 64)

-- ---- bits set
pub enters_none : (Y : ℕ → ℕ → Type 0) (D : List ℕ) → ((i y : ℕ) → Y i y → ⊥) → Queues Y D D
enters_none Y D f = record { keeps = keeps_none D; each = λ i y h. absurd (f i y h) }

pub enters_then : (Y Z : ℕ → ℕ → Type 0) {D D' D'' : List ℕ} → Queues Y D D' → Queues Z D' D'' → Queues (λ i y. Y i y ⊎ Z i y) D D''
enters_then Y Z a b = record {
  keeps = keeps_then a.keeps b.keeps;
  each = λ i y. ⊎_elim (λ h. b.keeps.kept (i + y / 64) (y % 64) (a.each i y h)) (b.each i y);
}

pub enters_as : (Y Z : ℕ → ℕ → Type 0) {D D' : List ℕ} → ((i y : ℕ) → Z i y → Y i y) → Queues Y D D' → Queues Z D D'
enters_as Y Z f a = record { keeps = a.keeps; each = λ i y h. a.each i y (f i y h) }

-- The word joined with the bit of row y, as the code does it.
module _ (D : List ℕ) (i y : ℕ) (inside : i + y / 64 < length D) where
  abbrev joined : ℕ
  joined = bit_or (get_or D (i + y / 64) 0) ((1 * 2 ^ (y % 64)) % 2 ^ 64)

  bit_here : get_or (set D (i + y / 64) joined) (i + y / 64) 0 ≡ joined
  bit_here = get_or-set_same D (i + y / 64) joined 0 inside

  bit_kept : (j b : ℕ) → Has (get_or D j 0) b → Has (get_or (set D (i + y / 64) joined) j 0) b
  bit_kept j b h = go (ℕ_discrete j (i + y / 64))
    where
      go : Dec (j ≡ i + y / 64) → Has (get_or (set D (i + y / 64) joined) j 0) b
      go (yes e) =
          subst (λ (k : ℕ). Has (get_or (set D (i + y / 64) joined) k 0) b) (sym e)
          (subst (λ (w : ℕ). Has w b) (sym bit_here) (or_left (get_or D (i + y / 64) 0) ((1 * 2 ^ (y % 64)) % 2 ^ 64) b (subst (λ (k : ℕ). Has (get_or D k 0) b) e h)))
      go (no f) = subst (λ (w : ℕ). Has w b) (sym (get_or-set_other D (i + y / 64) j joined 0 f)) h

  bit_set : Bit (set D (i + y / 64) joined) i y
  bit_set =
      subst (λ (w : ℕ). Has w (y % 64)) (sym bit_here)
      (or_right (get_or D (i + y / 64) 0) ((1 * 2 ^ (y % 64)) % 2 ^ 64) (y % 64)
      (subst (λ (w : ℕ). Has w (y % 64)) (sym (one_word (y % 64) (omega arith))) (one_has (y % 64))))

  pub enters_one : Queues (λ j z. (j ≡ i) × (z ≡ y)) D (set D (i + y / 64) joined)
  enters_one = record {
    keeps = record { size = length-set D (i + y / 64) joined; kept = bit_kept };
    each = λ j z h. rw (h.0, h.1) bit_set;
  }

-- ---- the items of row x itself
module _ (stride n x : ℕ) (Q : ℕ → Type 0) where
  pub enters_own : (q : ℕ) {D D' : List ℕ} → ((p : ℕ) → Q p → q ≡ p) → Queues (λ j z. (j ≡ q * stride) × (z ≡ x)) D D'
      → Queues (ItemsOf stride x (λ p. (p < n) × Q p)) D D'
  enters_own q f a =
      enters_as (λ j z. (j ≡ q * stride) × (z ≡ x)) (ItemsOf stride x (λ p. (p < n) × Q p))
      (λ i y h. (h.1.2 ∙ ap (λ (p : ℕ). p * stride) (sym (f h.1.0 h.1.1.1)), h.0)) a

  -- Of a look: the items at the two words that its ticks may see.
  pub enters_two : (seen : ℕ) {D D' D'' : List ℕ} → ((p : ℕ) → Q p → (p ≡ seen) ⊎ (p + 1 ≡ seen))
      → Queues (ItemsOf stride x (λ p. (p < n) × (p + 1 ≡ seen))) D D' → Queues (ItemsOf stride x (λ p. (p < n) × (p + 1 ≡ seen + 1))) D' D''
      → Queues (ItemsOf stride x (λ p. (p < n) × Q p)) D D''
  enters_two seen f a b =
      enters_as (λ i y. ItemsOf stride x (λ p. (p < n) × (p + 1 ≡ seen)) i y ⊎ ItemsOf stride x (λ p. (p < n) × (p + 1 ≡ seen + 1)) i y)
      (ItemsOf stride x (λ p. (p < n) × Q p))
      (λ i y h. ⊎_elim (λ e. inr (h.0, (h.1.0, (h.1.1.0, omega arith), h.1.2))) (λ e. inl (h.0, (h.1.0, (h.1.1.0, e), h.1.2))) (f h.1.0 h.1.1.1))
      (enters_then (ItemsOf stride x (λ p. (p < n) × (p + 1 ≡ seen))) (ItemsOf stride x (λ p. (p < n) × (p + 1 ≡ seen + 1))) a b)

-- ---- along a list of parents: on the way from the list's start `head` to h
pub record Walking (N : List ℕ) (count head h i : ℕ) (D D' : List ℕ) : Type 0 where
  pub keeps : Keeps D D'
  pub falls : Falls N (2 * count) h
  pub left : (y : ℕ) → Reach N head y → Bit D' i y ⊎ Reach N h y

module _ (N : List ℕ) (count head i : ℕ) (D : List ℕ) where
  pub walk_start : Falls N (2 * count) head → Walking N count head head i D D
  walk_start f = record { keeps = keeps_none D; falls = f; left = λ y r. inr r }

  pub walk_more : (h h' : ℕ) (D' D'' : List ℕ) → 0 < h → h' ≡ get_or N h 0 → Walking N count head h i D D' → Queues (λ j z. (j ≡ i) × (z ≡ h / 2)) D' D''
      → Walking N count head h' i D D''
  walk_more h h' D' D'' some to w a = record {
    keeps = keeps_then w.keeps a.keeps;
    falls = subst (Falls N (2 * count)) (sym to) (falls_next some w.falls).2;
    left = λ y r. ⊎_elim (λ k. inl (a.keeps.kept (i + y / 64) (y % 64) k)) (λ k. next y k) (w.left y r);
  }
    where
      next : (y : ℕ) → Reach N h y → Bit D'' i y ⊎ Reach N h' y
      next y r = ⊎_elim (λ k. inl (a.each i y (refl, sym k))) (λ k. inr (subst (λ (v : ℕ). Reach N v y) (sym to) k)) (reach_next N h y r)

  -- The next edge is lower, and the row of this one has its bit in the list.
  pub walk_edge : (h : ℕ) (D' : List ℕ) → 0 < h → Walking N count head h i D D' → (h < 2 * count) × (get_or N h 0 < h)
  walk_edge h D' some w = let n = falls_next some w.falls in (n.0, n.1)

  pub walk_end : (h : ℕ) (D' : List ℕ) → h ≡ 0 → Walking N count head h i D D' → Queues (λ j y. (j ≡ i) × Reach N head y) D D'
  walk_end h D' e w = record {
    keeps = w.keeps;
    each = λ j y k. rw k.0 (⊎_elim (λ b. b) (λ b. absurd (reach_end N h y e b)) (w.left y k.1));
  }

-- ---- all that rest on word p of row x: its own items and those of its parents
pub touched : (count : ℕ) (B H N : List ℕ) (n x p : ℕ) (D D' D'' : List ℕ) → x < count → Linked count B H N
    → Queues (ItemsOf (per count) x (λ q. (q < n) × OwnItem (row_at B x) p q)) D D'
    → Queues (ParentsAt (per count) H N x p) D' D''
    → QueuesResting count B n x p D D''
touched count B H N n x p D D' D'' l k a b = record {
  keeps = keeps_then a.keeps b.keeps;
  noted = λ r q g h s. ⊎_elim
      (λ e. subst (λ (v : ℕ). Bit D'' (v * per count) r) e.1 (b.each (p * per count) r (refl, k.reach x r l g e.0)))
      (λ e. still_to_do count r q b.keeps (a.each (q * per count) r (sym e.0, (q, (h, subst (λ (v : ℕ). OwnItem (row_at B v) p q) (sym e.0) e.1), refl))))
      (rests_split (row_at B r) r q x p s);
}
