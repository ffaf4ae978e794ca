-- The list started from the marks that stand: an item all of whose words are bare is settled, for every rule has a premise.
-- Assumes nothing.
use mathlib.Core.Path.{◌≡◌, refl, sym, subst}
use mathlib.Core.Bool.{Bool, true, false, not}
use mathlib.Core.List.{List}
use mathlib.Core.Logic.{◌⊎◌, inl, inr, ⊎_elim}
use Prim.Native.Nat.{ℕ, ◌+◌, ◌*◌, ◌/◌, ◌%◌, ◌≤◌, ◌<◌}
use native.Mathlib.Nat.{mul-le-mul_right}
use native.Mathlib.Omega.{arith}
use lib.Bits.{bit_or}
use lib.ListN.{get_or}
use Rattle.spec_ticks.specs.Ticks.{Has, block}
use Rattle.spec_ticks.proofs.Bits.{lt_or_ge, or_left, or_right, no_ticks}
use Rattle.table_marks.proofs.Places.{two_blocks}
use Rattle.lower_rows.specs.RowCodes.{row_at}
use Rattle.spec_tilco.specs.Inference.{Node, signal, not_of, gate, look, mark, Shifted}
use Rattle.spec_tilco.specs.Table.{Stands}
use Rattle.close_rules.specs.Codes.{Coded}
use Rattle.close_rules.specs.Settled.{SettledIn, Rests}
use Rattle.close_list.specs.Items.{QueuesResting, QueuesMarked, SettledOffList}
use Rattle.close_list.proofs.ByKind.{rests_below}
use Rattle.close_list.proofs.Queueing.{keeps_none, keeps_then, still_to_do}

-- Word p of row x has no mark.
abbrev Bare : ℕ → List ℕ → ℕ → ℕ → Type 0
Bare n T x p = (t : ℕ) (v : Bool) → t / 64 ≡ p → Stands n T (mark x t v) → ⊥

-- A look's tick t is in a word from which its child's word is seen.
pub seen_from : (t k s q : ℕ) → Shifted t k s → s / 64 ≡ q → (q ≡ t / 64 + k / 64) ⊎ (q + 1 ≡ t / 64 + k / 64)
seen_from t k s q d e = ⊎_elim (λ l. inr (omega arith)) (λ l. inl (omega arith)) (lt_or_ge (t % 64 + k % 64) 64)

-- Both words q of a row of the table stand in it, and what follows them is not far past it.
pub place_in : (n count x q place L : ℕ) → x < count → q < n → 2 * count * n ≤ L → place ≡ 2 * x * n + q → (place + n < L) × (2 * n ≤ L)
place_in n count x q place L l h m e =
    let b : 2 * (x + 1) * n ≤ 2 * count * n = mul-le-mul_right n (omega arith) in
    let t = two_blocks n x in
    (omega arith, omega arith)

-- Where every word that an item rests on is bare, it is settled.
bare_settled : (n W : ℕ) (T : List ℕ) (r q : ℕ) (d : Node) → ((x p : ℕ) → Rests d r q x p → Bare n T x p) → SettledIn q W (Stands n T) r d
bare_settled n W T r q signal f = tt
bare_settled n W T r q (not_of x) f = λ t v e. (λ i. absurd (f r q (refl, inl refl) t v e i), λ i. absurd (f x q (refl, inr refl) t v e i))
bare_settled n W T r q (gate u a b) f =
    λ t e. record {
      down_left = λ i. absurd (own t u e i);
      down_right = λ i. absurd (own t u e i);
      up_both = λ i j. absurd (left t u e i);
      up_left = λ i. absurd (left t (not u) e i);
      up_right = λ i. absurd (f b q (refl, inr (inr refl)) t (not u) e i);
      rest_right = λ i j. absurd (own t (not u) e i);
      rest_left = λ i j. absurd (own t (not u) e i);
    }
  where
    own : Bare n T r q
    own = f r q (refl, inl refl)

    left : Bare n T a q
    left = f a q (refl, inr (inl refl))
bare_settled n W T r q (look k c) f =
    λ t s v d l m e. (λ i. absurd (f r (t / 64) (inr (refl, seen_from t k s q d e)) t v refl i), λ i. absurd (f c q (inl (refl, refl)) s v e i))

-- Word q of row x's marks of value v.
abbrev word : ℕ → List ℕ → ℕ → ℕ → Bool → ℕ
word n T x q v = get_or T (block x v * n + q) 0

-- A row whose two words q, joined, are 0 has no mark there.
joined_bare : (n : ℕ) (T : List ℕ) (x q : ℕ) → bit_or (word n T x q true) (word n T x q false) ≡ 0 → Bare n T x q
joined_bare n T x q z t v e i =
    omega (arith, no_ticks (t % 64), subst (λ (w : ℕ). Has w (t % 64)) z (either v (subst (λ (p : ℕ). Has (word n T x p v) (t % 64)) e i.set_at)))
  where
    either : (u : Bool) → Has (word n T x q u) (t % 64) → Has (bit_or (word n T x q true) (word n T x q false)) (t % 64)
    either true h = or_left (word n T x q true) (word n T x q false) (t % 64) h
    either false h = or_right (word n T x q true) (word n T x q false) (t % 64) h

module _ (count : ℕ) (B : List ℕ) (n : ℕ) (T D : List ℕ) where
  -- No word yet.
  pub starts_none : (X : ℕ → ℕ → Type 0) → ((x p : ℕ) → X x p → ⊥) → QueuesMarked count B n X T D D
  starts_none X f = record { keeps = keeps_none D; noted = λ x t v k i. absurd (f x (t / 64) k) }

  -- The words X, and then the words Y.
  starts_then : (X Y Z : ℕ → ℕ → Type 0) {D' D'' : List ℕ} → ((x p : ℕ) → Z x p → X x p ⊎ Y x p) → QueuesMarked count B n X T D D' → QueuesMarked count B n Y T D' D'' → QueuesMarked count B n Z T D D''
  starts_then X Y Z f a b = record {
    keeps = keeps_then a.keeps b.keeps;
    noted = λ x t v k i. ⊎_elim (λ g r q l h s. still_to_do count r q b.keeps (a.noted x t v g i r q l h s)) (λ g. b.noted x t v g i) (f x (t / 64) k);
  }

  -- A row's word q, with a mark or without.
  pub starts_touched : (x q : ℕ) (D' D'' : List ℕ) → D'' ≡ D' → QueuesResting count B n x q D D' → QueuesMarked count B n (λ y p. (y ≡ x) × (p ≡ q)) T D D''
  starts_touched x q D' D'' is a = subst (QueuesMarked count B n (λ y p. (y ≡ x) × (p ≡ q)) T D) (sym is) (record {
    keeps = a.keeps;
    noted = λ y t v k i r w l h s. a.noted r w l h (subst (λ (z : ℕ). Rests (row_at B r) r w z q) k.0 (subst (λ (z : ℕ). Rests (row_at B r) r w y z) k.1 s));
  })

  pub starts_bare : (x q : ℕ) (D' : List ℕ) → D' ≡ D → bit_or (word n T x q true) (word n T x q false) ≡ 0 → QueuesMarked count B n (λ y p. (y ≡ x) × (p ≡ q)) T D D'
  starts_bare x q D' is z = subst (QueuesMarked count B n (λ y p. (y ≡ x) × (p ≡ q)) T D) (sym is) (record {
    keeps = keeps_none D;
    noted = λ y t v k i. absurd (joined_bare n T x q z t v k.1 (subst (λ (w : ℕ). Stands n T (mark w t v)) k.0 i));
  })

  -- One row more of word q, and one word of ticks more.
  pub starts_row : (x q : ℕ) (D' D'' : List ℕ) → QueuesMarked count B n (λ y p. (y < x) × (p ≡ q)) T D D' → QueuesMarked count B n (λ y p. (y ≡ x) × (p ≡ q)) T D' D''
      → QueuesMarked count B n (λ y p. (y < x + 1) × (p ≡ q)) T D D''
  starts_row x q D' D'' = starts_then _ _ _ (λ y p z. ⊎_elim (λ l. inl (l, z.1)) (λ l. inr (omega (arith, z.0), z.1)) (lt_or_ge y x))

  pub starts_column : (q : ℕ) (D' D'' : List ℕ) → QueuesMarked count B n (λ y p. (y < count) × (p < q)) T D D' → QueuesMarked count B n (λ y p. (y < count) × (p ≡ q)) T D' D''
      → QueuesMarked count B n (λ y p. (y < count) × (p < q + 1)) T D D''
  starts_column q D' D'' = starts_then _ _ _ (λ y p z. ⊎_elim (λ l. inl (z.0, l)) (λ l. inr (z.0, omega (arith, z.1))) (lt_or_ge p q))

  -- Fewer words.
  pub starts_as : (X Y : ℕ → ℕ → Type 0) (D' : List ℕ) → ((x p : ℕ) → Y x p → X x p) → QueuesMarked count B n X T D D' → QueuesMarked count B n Y T D D'
  starts_as X Y D' f a = record { keeps = a.keeps; noted = λ x t v k i. a.noted x t v (f x (t / 64) k) i }

  -- Every word done: what is not on the list is settled.
  pub starts_done : (D' : List ℕ) → Coded count B → QueuesMarked count B n (λ x p. (x < count) × (p < n)) T D D' → (W : ℕ) → SettledOffList count B W n T D'
  starts_done D' c a W r q l h off = bare_settled n W T r q (row_at B r) bare
    where
      bare : (x p : ℕ) → Rests (row_at B r) r q x p → Bare n T x p
      bare x p s t v e i =
          let b : x ≤ r = rests_below count B r q x p c s in
          off (a.noted x t v (omega arith, omega (arith, i.within)) i r q l h (subst (λ (w : ℕ). Rests (row_at B r) r q x w) (sym e) s))
