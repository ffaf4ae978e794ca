-- Items queued at a visit: of a child's word, of the row's own, one after another; and what the visit promises by them. Assumes nothing.
use mathlib.Core.Path.{◌≡◌, refl, sym, ◌∙◌, subst}
use mathlib.Core.Bool.{Bool}
use mathlib.Core.List.{List}
use mathlib.Core.Logic.{◌⊎◌, inl, inr, ⊎_elim}
use Prim.Native.Nat.{ℕ, ◌+◌, ◌*◌, ◌/◌, ◌<◌}
use native.Mathlib.Omega.{arith}
use Rattle.lower_rows.specs.RowCodes.{row_at}
use Rattle.spec_tilco.specs.Inference.{Node, look, Program, node, mark, Marks, ◌or◌}
use Rattle.spec_tilco.specs.Table.{Stands, Inside}
use Rattle.close_rules.specs.Settled.{SettledTo, SettledIn, Rests}
use Rattle.close_rules.specs.Effects.{InfersOnly, ChangedWord, ChangedWordBefore, NodeInfers, LookInfers}
use Rattle.close_parents.specs.Links.{Linked}
use Rattle.close_list.specs.Items.{per, Bit, OnList, NoItem, OneItem, Queues, ItemsOf, ParentsAt, QueuesResting}
use Rattle.close_list.proofs.ByKind.{rests_split}
use Rattle.close_list.proofs.Queueing.{keeps_none, keeps_then, still_to_do, enters_as, enters_then}
use Rattle.close_store.specs.Visits.{Visited, VisitsNode, VisitsLook, QueuesFor, QueuesIf, LookItems}

-- ---- bits set if something changed
pub enters_if_not : (Y : ℕ → ℕ → Type 0) (D : List ℕ) (told : ℕ) → told ≡ 0 → QueuesIf Y D D told
enters_if_not Y D told z = record { enters = record { keeps = keeps_none D; each = λ i y h. absurd (omega (arith, h.0)) }; still = λ e. refl }

pub enters_if : (Y : ℕ → ℕ → Type 0) {D D' : List ℕ} (told : ℕ) → 0 < told → Queues Y D D' → QueuesIf Y D D' told
enters_if Y told l a = record { enters = enters_as Y (λ i y. (0 < told) × Y i y) (λ i y h. h.1) a; still = λ z. absurd (omega arith) }

pub enters_as_none : (Y : ℕ → ℕ → Type 0) {Z : ℕ → ℕ → Type 0} {D D' : List ℕ} {told : ℕ} → told ≡ 0 → QueuesIf Z D D' told → QueuesIf Y D D' told
enters_as_none Y {D = D} {D'} {told} z f = subst (λ (X : List ℕ). QueuesIf Y D X told) (sym (f.still z)) (enters_if_not Y D told z)

-- The items of a look's row: its parents', and then its own.
pub enters_look : (stride : ℕ) (H N : List ℕ) (n x p m : ℕ) {D D' D'' : List ℕ} (told : ℕ) → 0 < told → QueuesIf (ParentsAt stride H N x p) D D' told
    → Queues (ItemsOf stride x (λ q. (q < n) × (q + 1 ≡ m))) D' D'' → QueuesIf (LookItems stride H N n x p m) D D'' told
enters_look stride H N n x p m told l a b =
    enters_if (LookItems stride H N n x p m) told l
    (enters_as _ (LookItems stride H N n x p m) (λ i y. ⊎_elim (λ h. inl (l, h)) (λ h. inr h))
    (enters_then (λ i y. (0 < told) × ParentsAt stride H N x p i y) (ItemsOf stride x (λ q. (q < n) × (q + 1 ≡ m))) a.enters b))

module _ (count : ℕ) (B : List ℕ) (n : ℕ) where
  -- No mark, no item.
  pub notes_none : (E : ℕ → ℕ → Type 0) (A : Marks) (D : List ℕ) (told : ℕ) → ((x t : ℕ) (v : Bool) → A (mark x t v) → ⊥) → QueuesFor E count B n A D D told
  notes_none E A D told f = record { keeps = keeps_none D; noted = λ x t v a. absurd (f x t v a); still = λ e. refl }

  -- A child's word that did not change, or did.
  pub notes_still : (x q told : ℕ) (D : List ℕ) → told ≡ 0 → QueuesFor NoItem count B n (ChangedWord x q told) D D told
  notes_still x q told D z = notes_none NoItem (ChangedWord x q told) D told (λ y t v a. omega (arith, a.2))

  pub notes_touched : (x q told : ℕ) (D D' : List ℕ) → 0 < told → QueuesResting count B n x q D D' → QueuesFor NoItem count B n (ChangedWord x q told) D D' told
  notes_touched x q told D D' l f = record { keeps = f.keeps; noted = each; still = λ z. absurd (omega arith) }
    where
      each : (y t : ℕ) (v : Bool) → ChangedWord x q told (mark y t v) → (s p : ℕ) → s < count → p < n → (NoItem s p → ⊥) → Rests (row_at B s) s p y (t / 64) → OnList count D' s p
      each y t v a s p g h off rests =
          f.noted s p g h (subst (λ (z : ℕ). Rests (row_at B s) s p z q) a.0 (subst (λ (w : ℕ). Rests (row_at B s) s p y w) a.1 rests))

  -- More items left out.
  pub notes_but : {F : ℕ → ℕ → Type 0} {A : Marks} {D D' : List ℕ} {told : ℕ} → QueuesFor NoItem count B n A D D' told → QueuesFor F count B n A D D' told
  notes_but f = record { keeps = f.keeps; noted = λ x t v a s p l h off. f.noted x t v a s p l h (λ z. z); still = f.still }

  -- One after another.
  pub notes_then : {E : ℕ → ℕ → Type 0} {A C : Marks} {D D' D'' : List ℕ} {x y : ℕ} → QueuesFor E count B n A D D' x → QueuesFor E count B n C D' D'' y
      → QueuesFor E count B n (◌or◌ A C) D D'' (x + y)
  notes_then f g = record {
    keeps = keeps_then f.keeps g.keeps;
    noted = λ x t v. ⊎_elim (λ a s p l h off rests. still_to_do count s p g.keeps (f.noted x t v a s p l h off rests)) (λ a. g.noted x t v a);
    still = λ e. g.still (omega arith) ∙ f.still (omega arith);
  }

  -- ---- the visited row's own word p, at a visit to item (r, q): its parents' items are put on the list, and its own at the words Q
  module _ (H N : List ℕ) (k : Linked count B H N) (r q p told : ℕ) (l : r < count) where
    pub notes_own : {A : Marks} {D D' : List ℕ} (Q : ℕ → Type 0) → ((x t : ℕ) (v : Bool) → A (mark x t v) → (x ≡ r) × (t / 64 ≡ p) × (0 < told))
        → (0 < told → (w : ℕ) → Rests (row_at B r) r w r p → (w ≡ q) ⊎ Q w)
        → QueuesIf (λ i y. ParentsAt (per count) H N r p i y ⊎ ItemsOf (per count) r (λ w. (w < n) × Q w) i y) D D' told → QueuesFor (OneItem r q) count B n A D D' told
    notes_own {A} {D} {D'} Q word own f =
        record { keeps = f.enters.keeps; noted = each; still = f.still }
      where
        each : (x t : ℕ) (v : Bool) → A (mark x t v) → (s w : ℕ) → s < count → w < n → (OneItem r q s w → ⊥) → Rests (row_at B s) s w x (t / 64) → OnList count D' s w
        each x t v a s w g h off rests =
            let z = word x t v a in
            let here = subst (λ (y : ℕ). Rests (row_at B s) s w y p) z.0 (subst (λ (y : ℕ). Rests (row_at B s) s w x y) z.1 rests) in
            ⊎_elim (λ e. subst (λ (y : ℕ). Bit D' (y * per count) s) e.1 (f.enters.each (p * per count) s (z.2, inl (refl, k.reach r s l g e.0))))
            (λ e. ⊎_elim (λ i. absurd (off (sym e.0, i))) (λ i. f.enters.each (w * per count) s (z.2, inr (sym e.0, (w, (h, i), refl))))
            (own z.2 w (subst (λ (y : ℕ). Rests (row_at B y) y w r p) (sym e.0) here)))
            (rests_split (row_at B s) s w r p here)

    -- Its only item that rests on the word is the visited one.
    pub notes_parents : {D D' : List ℕ} → ((w : ℕ) → Rests (row_at B r) r w r p → w ≡ q) → QueuesIf (ParentsAt (per count) H N r p) D D' told
        → QueuesFor (OneItem r q) count B n (ChangedWord r p told) D D' told
    notes_parents own f =
        notes_own (λ w. ⊥) (λ x t v a. a) (λ i w s. inl (own w s))
        (record { enters = enters_as _ _ (λ i y h. (h.0, ⊎_elim (λ a. a) (λ a. absurd a.1.1.1) h.1)) f.enters; still = f.still })

    -- It looks at row c with the offset o: the other item that rests on the word is the one before word m.
    pub notes_look : {D D' : List ℕ} (o c e m : ℕ) → c < r → row_at B r ≡ look o c → (0 < told → e ≡ p + o / 64) → ((w : ℕ) → (w ≡ e) ⊎ (w + 1 ≡ e) → (w ≡ q) ⊎ (w + 1 ≡ m))
        → QueuesIf (LookItems (per count) H N n r p m) D D' told → QueuesFor (OneItem r q) count B n (ChangedWordBefore r (o / 64) e told) D D' told
    notes_look o c e m below is at other f = notes_own (λ w. w + 1 ≡ m) (λ x t v a. (a.0, omega (arith, a.1, at a.2), a.2)) own f
      where
        own : 0 < told → (w : ℕ) → Rests (row_at B r) r w r p → (w ≡ q) ⊎ (w + 1 ≡ m)
        own some w s =
            ⊎_elim (λ a. absurd (omega (arith, a.0)))
            (λ a. other w (⊎_elim (λ g. inl (omega (arith, g, at some))) (λ g. inr (omega (arith, g, at some))) a.1))
            (subst (λ (d : Node). Rests d r w r p) is s)

  -- ---- a visit

  -- The rules' promise and the list's together: all that is new is queued for.
  pub visited : (r q W : ℕ) (C : Marks) {A : Marks} {T T' D D' : List ℕ} {x : ℕ} (P : Program) → InfersOnly n P W A T T' x → QueuesFor (OneItem r q) count B n A D D' x
      → SettledTo C q W (Stands n T') r (node P r) → Visited count B n P W r q C T T' D D' x
  visited r q W C P m k s = record {
    infers = m.infers;
    tells = m.tells;
    same_list = k.still;
    settled = s;
    heeds = record {
      keeps = k.keeps;
      noted = λ s p l h off this y u rests t v g i. ⊎_elim (λ j. j)
          (λ a. absurd (off (k.noted y t v a s p l h this (subst (λ (w : ℕ). Rests (row_at B s) s p y w) (sym g) rests)))) (m.only (mark y t v) i);
    };
  }

  pub visits_by : (d : Node) (r q W : ℕ) (A : Marks) (T T' D D' : List ℕ) (x : ℕ)
      → NodeInfers d r A (λ S. SettledIn q W S r d) W n T T' x → (row_at B r ≡ d → QueuesFor (OneItem r q) count B n A D D' x) → VisitsNode d count B r q W n T T' D D'
  visits_by d r q W A T T' D D' x f k = record {
    changed = x;
    each = λ P e is. let m = f P e in visited r q W (Stands n T') P m.0 (k is) (subst (SettledIn q W (Stands n T') r) (sym e) m.1);
  }

  pub looks_by : (o c r q W : ℕ) (A G G' : Marks) (T T' D D' : List ℕ) (x : ℕ) → Inside W (Stands n T)
      → LookInfers o c r A (λ S. SettledTo G' q W S r (look o c)) G G' W n T T' x → (row_at B r ≡ look o c → QueuesFor (OneItem r q) count B n A D D' x) → VisitsLook o c count B r q W n G G' T T' D D'
  looks_by o c r q W A G G' T T' D D' x inside f k = record {
    changed = x;
    each = λ P e is. let m = f P e inside in (visited r q W G' P m.0 (k is) (subst (SettledTo G' q W (Stands n T') r) (sym e) m.1), m.2);
  }

-- A row whose items rest, by its node, on the same word of the row itself: a gate or a not-row.
pub rests_here : (B : List ℕ) (r p : ℕ) {d : Node} → row_at B r ≡ d → ((w : ℕ) → Rests d r w r p → p ≡ w) → (w : ℕ) → Rests (row_at B r) r w r p → w ≡ p
rests_here B r p e f w s = sym (f w (subst (λ (d : Node). Rests d r w r p) e s))
