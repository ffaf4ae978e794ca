-- An item visited and taken off the list: what is not on the list stays settled, and nothing else is taken off.
-- Assumes nothing.
use mathlib.Core.Path.{◌≡◌, sym, ap, ◌∙◌, subst}
use mathlib.Core.List.{List}
use mathlib.Core.Logic.{inl, inr, ⊎_elim}
use Prim.Native.Nat.{ℕ, suc, ◌+◌, ◌-◌, ◌*◌, ◌/◌, ◌%◌, ◌^◌, ◌≤◌, ◌<◌}
use native.Mathlib.Decide.{ℕ_discrete}
use native.Mathlib.Nat.{le_refl, mod-eq-sub-mod, div-eq-sub-div}
use native.Mathlib.Omega.{arith}
use lib.Arith.{digits_div, digits_mod}
use lib.ListN.{length, get_or, set, length-set}
use lib.Pow.{pow_pos}
use lib.Seq.{get_or-set_same, get_or-set_other}
use Rattle.spec_ticks.specs.Ticks.{bit, Has}
use Rattle.spec_ticks.proofs.Bits.{lt_or_ge, bit_shr, bit_past, bit_low}
use Rattle.lower_rows.specs.RowCodes.{row_at}
use Rattle.spec_tilco.specs.Inference.{look, Program, Mark, Marks, ◌or◌}
use Rattle.spec_tilco.specs.Table.{Stands}
use Rattle.close_rules.specs.Codes.{Codes, Coded}
use Rattle.close_rules.specs.Settled.{SettledTo}
use Rattle.close_rules.specs.Effects.{Gathers}
use Rattle.close_list.specs.Items.{per, OnList, OneItem, ListFits, Keeps, SettledOffListTo}
use Rattle.close_list.proofs.Queueing.{column_in, still_to_do}
use Rattle.close_store.specs.Visits.{Visited, Visits, VisitsLook}
use Rattle.close_word.specs.VisitSeries.{ItemAt, VisitSeries, NoWord, TakesOff, TakesOffLook}
use Rattle.close_word.proofs.Local.{settled_more, settled_local}

-- ---- a bit of a word cleared
module _ (x k : ℕ) (has : Has x k) where
  pub bit_le : 2 ^ k ≤ x
  bit_le = ⊎_elim (λ l. absurd (omega (arith, bit_past x k k l (le_refl k)))) (λ l. l) (lt_or_ge x (2 ^ k))

  odd : x / 2 ^ k % 2 ≡ 1
  unfolding bit
  odd = has

  cleared_same : (b : ℕ) → (b ≡ k → ⊥) → bit (x - 2 ^ k) b ≡ bit x b
  cleared_same b f = ⊎_elim below (λ l. above (omega (arith, f))) (lt_or_ge b k)
    where
      below : b < k → bit (x - 2 ^ k) b ≡ bit x b
      below l = sym (bit_low (x - 2 ^ k) k b l) ∙ ap (λ (a : ℕ). bit a b) (sym (mod-eq-sub-mod bit_le)) ∙ bit_low x k b l

      half : (a c : ℕ) → c ≡ a + 1 → c % 2 ≡ 1 → a / 2 ^ 1 ≡ c / 2 ^ 1
      half a c e o = omega arith

      above : k < b → bit (x - 2 ^ k) b ≡ bit x b
      above l =
          let j = b - suc k in
          let e : b ≡ k + (1 + j) = omega arith in
          ap (bit (x - 2 ^ k)) e ∙ sym (bit_shr (x - 2 ^ k) k (1 + j)) ∙ sym (bit_shr ((x - 2 ^ k) / 2 ^ k) 1 j)
          ∙ ap (λ (a : ℕ). bit a j) (half ((x - 2 ^ k) / 2 ^ k) (x / 2 ^ k) (div-eq-sub-div (pow_pos k) bit_le) odd)
          ∙ bit_shr (x / 2 ^ k) 1 j ∙ bit_shr x k (1 + j) ∙ ap (bit x) (sym e)

-- ---- the item at bit k of word j taken off the list D
pub item_inside : {count n q i j k : ℕ} {D : List ℕ} → ItemAt count n q i j k D → ListFits count n D → j < length D
item_inside {count} {n} {q} {D = D} at h = omega (arith, at.place, at.column, column_in (per count) n q (length D) at.word h.long)

module _ {count n q i j k : ℕ} {D : List ℕ} (at : ItemAt count n q i j k D) (inside : j < length D) where
  abbrev pub without : List ℕ
  without = set D j (get_or D j 0 - 2 ^ k)

  bit_other : (w b : ℕ) → (w ≡ j → b ≡ k → ⊥) → bit (get_or without w 0) b ≡ bit (get_or D w 0) b
  bit_other w b f = go (ℕ_discrete w j)
    where
      go : Dec (w ≡ j) → bit (get_or without w 0) b ≡ bit (get_or D w 0) b
      go (yes e) =
          ap (λ (v : ℕ). bit (get_or without v 0) b) e ∙ ap (λ (v : ℕ). bit v b) (get_or-set_same D j (get_or D j 0 - 2 ^ k) 0 inside)
          ∙ cleared_same (get_or D j 0) k at.on_list b (f e) ∙ ap (λ (v : ℕ). bit (get_or D v 0) b) (sym e)
      go (no g) = ap (λ (v : ℕ). bit v b) (get_or-set_other D j w (get_or D j 0 - 2 ^ k) 0 g)

  -- An item is where its word and its row say.
  item_at : (r p : ℕ) → r < count → p * per count + r / 64 ≡ j → (p ≡ q) × (r / 64 ≡ i)
  item_at r p h e = (
    sym (digits_div p (omega arith)) ∙ ap (λ (v : ℕ). v / per count) (e ∙ at.place) ∙ digits_div q at.column,
    sym (digits_mod p (omega arith)) ∙ ap (λ (v : ℕ). v % per count) (e ∙ at.place) ∙ digits_mod q at.column,
  )

  pub others_stay : (r p : ℕ) → r < count → (r ≡ 64 * i + k → p ≡ q → ⊥) → OnList count D r p → OnList count without r p
  others_stay r p h f t =
      bit_other (p * per count + r / 64) (r % 64) (λ e g. let z = item_at r p h e in f (omega (arith, z.1, g)) z.0) ∙ t

  -- No other word changes, and this one was not 0.
  zero_stays : (w : ℕ) → get_or D w 0 ≡ 0 → get_or without w 0 ≡ 0
  zero_stays w z = go (ℕ_discrete w j)
    where
      go : Dec (w ≡ j) → get_or without w 0 ≡ 0
      go (yes e) = absurd (omega (arith, ap (λ (v : ℕ). get_or D v 0) e, bit_le (get_or D j 0) k at.on_list, pow_pos k))
      go (no f) = get_or-set_other D j w (get_or D j 0 - 2 ^ k) 0 f ∙ z

  pub word_falls : get_or without j 0 < get_or D j 0
  word_falls = omega (arith, get_or-set_same D j (get_or D j 0 - 2 ^ k) 0 inside, bit_le (get_or D j 0) k at.on_list, pow_pos k)

-- ---- a visit to the item, row 64 i + k at word q, after which it is on the list still
pub item_kept : {count n q i j k : ℕ} {D D' : List ℕ} → ItemAt count n q i j k D → Keeps D D' → ItemAt count n q i j k D'
item_kept at k = record { word = at.word; column = at.column; place = at.place; bit = at.bit; on_list = k.kept _ _ at.on_list }

-- Another bit of the same word.
pub item_next : {count n q i j k l : ℕ} {D D' : List ℕ} → ItemAt count n q i j k D → l < 64 → Has (get_or D' j 0) l → ItemAt count n q i j l D'
item_next at b h = record { word = at.word; column = at.column; place = at.place; bit = b; on_list = h }

pub visit_keeps : {count : ℕ} {B : List ℕ} {r q W n : ℕ} {T T' D D' : List ℕ} → Coded count B → Visits count B r q W n T T' D D' → Keeps D D'
visit_keeps c f = (f.each c.program c.codes).heeds.keeps

pub look_keeps : {o c count : ℕ} {B : List ℕ} {r q W n : ℕ} {G G' : Marks} {T T' D D' : List ℕ} → Coded count B → row_at B r ≡ look o c
    → VisitsLook o c count B r q W n G G' T T' D D' → Keeps D D'
look_keeps {r = r} k e f = (f.each k.program (k.codes.nodes r ∙ e) e).0.heeds.keeps

module _ {count n q i j k : ℕ} (B : List ℕ) (W : ℕ) (T T' D D₁ D' : List ℕ) (at : ItemAt count n q i j k D₁) (inside : j < length D₁)
    (is : D' ≡ set D₁ j (get_or D₁ j 0 - 2 ^ k)) where
  -- What is not on the list at the end was not on it before, or is this item; X and X' are what looks may give before and after.
  module _ (P : Program) (c : Codes P count B) (C X X' : Marks) {x : ℕ} (more : (m : Mark) → X m → X' m) (own : (m : Mark) → C m → X' m)
      (v : Visited count B n P W (64 * i + k) q C T T' D D₁ x) (done : SettledOffListTo X count B W n T D) where
    still_settled : (r p : ℕ) → r < count → p < n → (OnList count D₁ r p → ⊥) → (OneItem (64 * i + k) q r p → ⊥) → SettledTo X' p W (Stands n T') r (row_at B r)
    still_settled r p h b f z =
        settled_more X X' p W (Stands n T') r (row_at B r) more
        (settled_local n W T T' v.infers.grows X r p (row_at B r) (v.heeds.noted r p h b f z) (done r p h b (λ t. f (still_to_do count r p v.heeds.keeps t))))

    done_after : SettledOffListTo X' count B W n T' D'
    done_after r p h b f = go (ℕ_discrete r (64 * i + k)) (ℕ_discrete p q)
      where
        gone : (r ≡ 64 * i + k → p ≡ q → ⊥) → OnList count D₁ r p → ⊥
        gone g t = f (subst (λ (X : List ℕ). OnList count X r p) (sym is) (others_stay at inside r p h g t))

        go : Dec (r ≡ 64 * i + k) → Dec (p ≡ q) → SettledTo X' p W (Stands n T') r (row_at B r)
        go (yes e) (yes g) =
            let s : SettledTo C q W (Stands n T') (64 * i + k) (row_at B (64 * i + k)) = subst (SettledTo C q W (Stands n T') (64 * i + k)) (c.nodes (64 * i + k)) v.settled in
            let z = settled_more C X' q W (Stands n T') (64 * i + k) (row_at B (64 * i + k)) own s in
            subst (λ (x : ℕ). SettledTo X' p W (Stands n T') x (row_at B x)) (sym e) (subst (λ (y : ℕ). SettledTo X' y W (Stands n T') (64 * i + k) (row_at B (64 * i + k))) (sym g) z)
        go (yes e) (no g) = still_settled r p h b (gone (λ a z. g z)) (λ z. g z.1)
        go (no e) g = still_settled r p h b (gone (λ a z. e a)) (λ z. e z.0)

  -- The visit as a series: word j of the list falls, unless the table changed.
  module _ {P : Program} {C : Marks} {x : ℕ} (v : Visited count B n P W (64 * i + k) q C T T' D D₁ x) where
    stretch : {F G : List ℕ → List ℕ → Type 0} → (F T D → G T' D') → VisitSeries F G n P W NoWord T T' D D' x
    stretch f = record {
      infers = v.infers;
      tells = v.tells;
      empty = λ e w. ⊎_elim (λ z. subst (λ (X : List ℕ). get_or X w 0 ≡ 0) (sym is) (zero_stays at inside w (subst (λ (X : List ℕ). get_or X w 0 ≡ 0) (sym (v.same_list e)) z)))
          (λ z. absurd z);
      rests = f;
    }

    falls : x ≡ 0 → get_or D' j 0 < get_or D j 0
    falls e =
        subst (λ (X : List ℕ). get_or X j 0 < get_or D j 0) (sym is)
        (subst (λ (X : List ℕ). get_or (without at inside) j 0 < get_or X j 0) (v.same_list e) (word_falls at inside))

    long : length D' ≡ length D
    long = ap length is ∙ length-set D₁ j (get_or D₁ j 0 - 2 ^ k) ∙ v.heeds.keeps.size

  module _ (coded : Coded count B) where
    pub taken : Visits count B (64 * i + k) q W n T T' D D₁ → TakesOff count B W n j T T' D D'
    taken f = record {
      works = record {
        changed = f.changed;
        long = long (f.each coded.program coded.codes);
        each = λ P c. let v = f.each P c in stretch v (done_after P c (Stands n T') (Stands n T) (Stands n T') v.infers.grows (λ m h. h) v);
      };
      less = falls (f.each coded.program coded.codes);
    }

    -- A look: what it gives its child is gathered.
    pub looked : (o y : ℕ) (G G' : Marks) → row_at B (64 * i + k) ≡ look o y → VisitsLook o y count B (64 * i + k) q W n G G' T T' D D₁ → TakesOffLook count B W n j G G' T T' D D'
    looked o y G G' e f = record {
      changed = f.changed;
      long = long (visit coded.program coded.codes).0;
      each = λ P c. let v = visit P c in (
        stretch v.0 (done_after P c G' (◌or◌ (Stands n T) G) (◌or◌ (Stands n T') G') (λ m. ⊎_elim (λ h. inl (v.0.infers.grows m h)) (λ h. inr (v.1.grows m h))) (λ m h. inr h) v.0),
        v.1,
      );
      less = falls (visit coded.program coded.codes).0;
    }
      where
        visit : (P : Program) → Codes P count B → Visited count B n P W (64 * i + k) q G' T T' D D₁ f.changed × Gathers P W (Stands n T) G G'
        visit P c = f.each P (c.nodes (64 * i + k) ∙ e) e
