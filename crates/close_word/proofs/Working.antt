-- Series of visits: none, one after another, and a word of the list that is empty then.
-- Assumes nothing.
use mathlib.Core.Path.{◌≡◌, refl, sym, ap, ◌∙◌, subst}
use mathlib.Core.List.{List}
use mathlib.Core.Logic.{◌⊎◌, inl, inr, ⊎_elim}
use Prim.Native.Nat.{ℕ, ◌+◌, ◌*◌, ◌/◌, ◌^◌, ◌<◌}
use native.Mathlib.Nat.{div-le_self}
use native.Mathlib.Omega.{arith}
use lib.Count.{count_trailing_zeros}
use lib.ListN.{get_or}
use Rattle.spec_ticks.specs.Ticks.{Has}
use Rattle.spec_ticks.proofs.Bits.{bit_shr, has_below}
use Rattle.spec_ticks.proofs.Counts.{first_has}
use Rattle.spec_tilco.specs.Inference.{Program}
use Rattle.close_rules.specs.Codes.{Coded}
use Rattle.table_words.specs.WordTicks.{room}
use Rattle.table_words.proofs.Telling.{some_or_none, tells_none, tells_then}
use Rattle.close_rules.proofs.Inferring.{infers_none, infers_then}
use Rattle.close_list.specs.Workable.{Workable}
use Rattle.close_list.proofs.Workable.{workable_after}
use Rattle.close_word.specs.VisitSeries.{VisitSeries, WorksList, TakesOff, NoWord, OneWord}

-- One series after another.
pub stretch_then : {F G H : List ℕ → List ℕ → Type 0} {n : ℕ} {P : Program} {W : ℕ} {Y Z : ℕ → Type 0} (U : ℕ → Type 0) {T T' T'' D D' D'' : List ℕ} {x y : ℕ} → ((j : ℕ) → U j → Y j ⊎ Z j)
    → VisitSeries F G n P W Y T T' D D' x → VisitSeries G H n P W Z T' T'' D' D'' y → VisitSeries F H n P W U T T'' D D'' (x + y)
stretch_then U among m k = record {
  infers = infers_then m.infers k.infers;
  tells = tells_then m.tells k.tells;
  empty = λ e j. ⊎_elim (λ z. k.empty (omega arith) j (inl (m.empty (omega arith) j (inl z))))
      (λ u. ⊎_elim (λ h. k.empty (omega arith) j (inl (m.empty (omega arith) j (inr h)))) (λ h. k.empty (omega arith) j (inr h)) (among j u));
  rests = λ d. k.rests (m.rests d);
}

-- Other words of the list that are 0 if nothing changed.
stretch_as : {F G : List ℕ → List ℕ → Type 0} {n : ℕ} {P : Program} {W : ℕ} {Y : ℕ → Type 0} (Z : ℕ → Type 0) {T T' D D' : List ℕ} {x : ℕ}
    → ((j : ℕ) → Z j → Y j ⊎ (get_or D' j 0 ≡ 0)) → VisitSeries F G n P W Y T T' D D' x → VisitSeries F G n P W Z T T' D D' x
stretch_as Z f m = record {
  infers = m.infers;
  tells = m.tells;
  empty = λ e j. ⊎_elim (λ z. m.empty e j (inl z)) (λ z. ⊎_elim (λ y. m.empty e j (inr y)) (λ y. y) (f j z));
  rests = m.rests;
}

module _ (count : ℕ) (B : List ℕ) (W n : ℕ) where
  -- Nothing done, and no word among those that are 0.
  pub works_none : (Z : ℕ → Type 0) (T D : List ℕ) → ((j : ℕ) → Z j → ⊥) → WorksList count B W n Z T T D D
  works_none Z T D f = record {
    changed = 0;
    long = refl;
    each = λ P c. record {
      infers = infers_none T;
      tells = tells_none T;
      empty = λ e j. ⊎_elim (λ z. z) (λ z. absurd (f j z));
      rests = λ d. d;
    };
  }

  pub works_as : (Y Z : ℕ → Type 0) {T T' D D' : List ℕ} → ((j : ℕ) → Z j → Y j) → WorksList count B W n Y T T' D D' → WorksList count B W n Z T T' D D'
  works_as Y Z f a = record { changed = a.changed; long = a.long; each = λ P c. stretch_as Z (λ j z. inl (f j z)) (a.each P c) }

  -- A word of the list that is 0.
  pub works_word : (j : ℕ) {T T' D D' : List ℕ} → get_or D' j 0 ≡ 0 → WorksList count B W n NoWord T T' D D' → WorksList count B W n (OneWord j) T T' D D'
  works_word j {D' = D'} z a = record {
    changed = a.changed;
    long = a.long;
    each = λ P c. stretch_as (OneWord j) (λ i e. inr (subst (λ (k : ℕ). get_or D' k 0 ≡ 0) (sym e) z)) (a.each P c);
  }

  -- Items can be visited still.
  pub works_workable : (Z : ℕ → Type 0) {H N T T' D D' : List ℕ} → Workable count n W B H N D T → WorksList count B W n Z T T' D D' → Workable count n W B H N D' T'
  works_workable Z k a = workable_after k a.long (a.each k.coded.program k.coded.codes).infers

  -- One series after another.
  pub works_then : (Y Z U : ℕ → Type 0) {T T' T'' D D' D'' : List ℕ} → ((j : ℕ) → U j → Y j ⊎ Z j) → WorksList count B W n Y T T' D D' → WorksList count B W n Z T' T'' D' D'' → WorksList count B W n U T T'' D D''
  works_then Y Z U among a b = record { changed = a.changed + b.changed; long = b.long ∙ a.long; each = λ P c. stretch_then U among (a.each P c) (b.each P c) }

-- ---- the items of one word of the list, the lowest first

-- A word that is not 0 has a lowest bit.
pub lowest : (x : ℕ) → (x ≡ 0 → ⊥) → x < 2 ^ 64 → (count_trailing_zeros 64 x < 64) × Has x (count_trailing_zeros 64 x)
lowest x f small =
    let h : Has x (count_trailing_zeros 64 x) = first_has 64 x (omega (arith, f)) small in
    (has_below x 64 (count_trailing_zeros 64 x) small h, h)

-- What is left of it above a bit has its lowest bit in the word too.
pub lowest_from : (x k : ℕ) → x < 2 ^ 64 → (x / 2 ^ k ≡ 0 → ⊥) → (k + count_trailing_zeros 64 (x / 2 ^ k) < 64) × Has x (k + count_trailing_zeros 64 (x / 2 ^ k))
lowest_from x k small f =
    let l = lowest (x / 2 ^ k) f (omega (arith, div-le_self x (2 ^ k))) in
    let h : Has x (k + count_trailing_zeros 64 (x / 2 ^ k)) = sym (bit_shr x k (count_trailing_zeros 64 (x / 2 ^ k))) ∙ l.1 in
    (has_below x 64 _ small h, h)

-- Visits to items of a word of the list leave the table less room, whatever the word is then, or the word smaller.
pub stretch_less : {F G : List ℕ → List ℕ → Type 0} {n : ℕ} {P : Program} {W : ℕ} {Z : ℕ → Type 0} {T T' D D' : List ℕ} {x : ℕ} (j : ℕ) → VisitSeries F G n P W Z T T' D D' x
    → (x ≡ 0 → get_or D' j 0 < get_or D j 0) → get_or D' j 0 < 2 ^ 64 → room T' * 2 ^ 64 + get_or D' j 0 < room T * 2 ^ 64 + get_or D j 0
stretch_less {x = x} j m less small = ⊎_elim (λ l. omega (arith, m.tells.less_room l)) (λ e. omega (arith, less e, ap room (m.tells.still e))) (some_or_none x)

pub taken_less : (count : ℕ) (B : List ℕ) (W n j : ℕ) {T T' D D' : List ℕ} → Coded count B → TakesOff count B W n j T T' D D' → get_or D' j 0 < 2 ^ 64
    → room T' * 2 ^ 64 + get_or D' j 0 < room T * 2 ^ 64 + get_or D j 0
taken_less count B W n j k a small = stretch_less j (a.works.each k.program k.codes) a.less small
