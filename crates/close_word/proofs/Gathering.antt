-- Visits to looks at one row, one after another: what they give it is gathered, and marked at the end. Assumes nothing.
use mathlib.Core.Path.{◌≡◌, refl, sym, ◌∙◌, subst}
use mathlib.Core.Bool.{true}
use mathlib.Core.List.{List}
use mathlib.Core.Logic.{◌⊎◌, inl, inr, ⊎_elim}
use Prim.Native.Nat.{ℕ, ◌+◌, ◌%◌, ◌<◌}
use native.Mathlib.Omega.{arith}
use lib.ListN.{length, get_or}
use Rattle.spec_ticks.proofs.Bits.{no_ticks}
use Rattle.lower_rows.specs.RowCodes.{row_at}
use Rattle.spec_tilco.specs.Inference.{Program, Mark, mark, Marks, Derives, ◌or◌}
use Rattle.spec_tilco.specs.Table.{Stands}
use Rattle.spec_tilco.proofs.Derives.{cut}
use Rattle.close_rules.specs.Codes.{Codes}
use Rattle.close_rules.specs.Settled.{Rests, SameWord}
use Rattle.close_rules.specs.Effects.{InfersOnly, Gathered}
use Rattle.table_words.proofs.Telling.{tells_none}
use Rattle.close_rules.proofs.Inferring.{infers_none, joins_infer}
use Rattle.close_list.specs.Items.{OnList, SettledOffList}
use Rattle.close_list.proofs.Queueing.{still_to_do}
use Rattle.close_list.specs.Workable.{Workable}
use Rattle.close_list.proofs.Workable.{workable_after}
use Rattle.close_store.specs.Visits.{StoresWord}
use Rattle.close_word.specs.VisitSeries.{VisitSeries, NoWord, TakesOff, SettledOffListBut, TakesOffLook}
use Rattle.close_word.proofs.Local.{settled_more, settled_local}
use Rattle.close_word.proofs.Working.{stretch_then}

-- Visits to looks in word j of the list, from the table T and the list D on, after which the marks G are gathered. K holds until the first.
pub record LooksSoFar (count : ℕ) (B : List ℕ) (W n j : ℕ) (K : Type 0) (G : Marks) (T T' D D' : List ℕ) : Type 0 where
  pub changed : ℕ
  pub long : length D' ≡ length D
  pub each : (P : Program) → Codes P count B → VisitSeries (SettledOffList count B W n) (SettledOffListBut G count B W n) n P W NoWord T T' D D' changed
  pub follow : (P : Program) → Codes P count B → (m : Mark) → G m → Derives P W (Stands n T) m
  pub less : changed ≡ 0 → (get_or D' j 0 < get_or D j 0) ⊎ ((get_or D' j 0 ≡ get_or D j 0) × K)

module _ (count : ℕ) (B : List ℕ) (W n j : ℕ) where
  -- Nothing gathered yet.
  pub gathering_none : {K : Type 0} → K → (c q : ℕ) (T D : List ℕ) → LooksSoFar count B W n j K (Gathered c q 0 0) T T D D
  gathering_none k c q T D = record {
    changed = 0;
    long = refl;
    each = λ P a. record {
      infers = infers_none T;
      tells = tells_none T;
      empty = λ e j. ⊎_elim (λ z. z) (λ z. absurd z);
      rests = λ d r p l h off. settled_more (Stands n T) (◌or◌ (Stands n T) (Gathered c q 0 0)) p W (Stands n T) r (row_at B r) (λ m i. inl i) (d r p l h off);
    };
    follow = λ P a. none;
    less = λ e. inr (refl, k);
  }
    where
      none : {P : Program} (m : Mark) → Gathered c q 0 0 m → Derives P W (Stands n T) m
      none (mark x t v) = ⊎_elim (λ h. absurd (omega (arith, no_ticks (t % 64), h.3))) (λ h. absurd (omega (arith, no_ticks (t % 64), h.3)))

  -- One look more.
  pub gathering_more : {K : Type 0} (K' : Type 0) {G G' : Marks} {T T' T'' D D' D'' : List ℕ} → LooksSoFar count B W n j K G T T' D D' → TakesOffLook count B W n j G G' T' T'' D' D''
      → LooksSoFar count B W n j K' G' T T'' D D''
  gathering_more K' a b = record {
    changed = a.changed + b.changed;
    long = b.long ∙ a.long;
    each = λ P k. stretch_then NoWord (λ i z. absurd z) (a.each P k) (b.each P k).0;
    follow = λ P k m g. ⊎_elim (a.follow P k m) (λ d. cut (a.each P k).infers.sound d) ((b.each P k).1.sound m g);
    less = λ e. inl (⊎_elim (λ h. omega (arith, h, b.less (omega arith))) (λ h. omega (arith, h.0, b.less (omega arith))) (a.less (omega arith)));
  }

  -- What was gathered is marked, and what rests on it queued.
  pub gathering_end : {K : Type 0} (c q v w : ℕ) {T T' T'' D D' D'' : List ℕ} → (K → ⊥) → LooksSoFar count B W n j K (Gathered c q v w) T T' D D'
      → StoresWord count B n q c true v w T' T'' D' D'' → TakesOff count B W n j T T'' D D''
  gathering_end c q v w {T} {T'} {T''} {D} {D'} {D''} some a b = record {
    works = record {
      changed = a.changed + b.changed;
      long = b.notes.keeps.size ∙ a.long;
      each = λ P k. stretch_then NoWord (λ i z. absurd z) (a.each P k) (end P k);
    };
    less = λ e. subst (λ (X : List ℕ). get_or X j 0 < get_or D j 0) (sym (b.notes.still (omega arith))) (⊎_elim (λ h. h) (λ h. absurd (some h.1)) (a.less (omega arith)));
  }
    where
      end : (P : Program) → Codes P count B → VisitSeries (SettledOffListBut (Gathered c q v w) count B W n) (SettledOffList count B W n) n P W NoWord T' T'' D' D'' b.changed
      end P k = record {
        infers = m.infers;
        tells = m.tells;
        empty = λ e i. ⊎_elim (λ z. subst (λ (X : List ℕ). get_or X i 0 ≡ 0) (sym (b.notes.still e)) z) (λ z. absurd z);
        rests = λ d r p l h off. settled_more (◌or◌ (Stands n T') (Gathered c q v w)) (Stands n T'') p W (Stands n T'') r (row_at B r) there
            (settled_local n W T' T'' m.infers.grows (◌or◌ (Stands n T') (Gathered c q v w)) r p (row_at B r) (same r p l h off) (d r p l h (λ t. off (still_to_do count r p b.notes.keeps t))));
      }
        where
          m : InfersOnly n P W (λ m. Gathered c q v w m × (0 < b.changed)) T' T'' b.changed
          m = joins_infer n P W T (Gathered c q v w) (a.each P k).infers.grows b.joins (a.follow P k)

          there : (i : Mark) → (◌or◌ (Stands n T') (Gathered c q v w)) i → Stands n T'' i
          there i = (b.joins.gains.exactly i).1

          same : (r p : ℕ) → r < count → p < n → (OnList count D'' r p → ⊥) → (x u : ℕ) → Rests (row_at B r) r p x u → SameWord n T' T'' x u
          same r p l h off x u rests t z e i =
              ⊎_elim (λ y. y)
              (λ y. absurd (off (b.notes.noted x t z (⊎_elim (λ g. (g.0, g.2, y.1)) (λ g. (g.0, g.2, y.1)) y.0) r p l h (λ none. none) (subst (λ (s : ℕ). Rests (row_at B r) r p x s) (sym e) rests))))
              (m.only (mark x t z) i)

  -- Items can be visited still.
  pub gathering_workable : {K : Type 0} {G : Marks} {H N T T' D D' : List ℕ} → Workable count n W B H N D T → LooksSoFar count B W n j K G T T' D D'
      → Workable count n W B H N D' T'
  gathering_workable k a = workable_after k a.long (a.each k.coded.program k.coded.codes).infers
