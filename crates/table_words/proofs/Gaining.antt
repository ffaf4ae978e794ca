-- Ticks joined to a word of the table, as the code does it: what stands then, and that the words have less room.
-- Assumes nothing.
use mathlib.Core.Path.{◌≡◌, refl, sym, ap, ◌∙◌, subst}
use mathlib.Core.Bool.{Bool, true, false, not}
use mathlib.Core.List.{List, [], ◌∷◌}
use mathlib.Core.Logic.{inl, inr, ⊎_elim, ◌↔◌}
use Prim.Native.Nat.{ℕ, zero, suc, ◌+◌, ◌*◌, ◌/◌, ◌%◌, ◌^◌, ◌<◌, ◌≤◌}
use native.Mathlib.Nat.{not-suc-le-zero, le_of_suc-le-suc}
use native.Mathlib.Omega.{arith}
use lib.Arith.{digits_div}
use lib.Bits.{bit_or, bit_xor, or_lt, or_comm, xor_self, xor_add_and, and_le_l, and_le_r}
use lib.ListN.{length, get_or, set, length-set}
use lib.Seq.{set-get_or, get_or-set_same, get_or-set_other}
use Rattle.spec_ticks.specs.Ticks.{block}
use Rattle.spec_ticks.proofs.Bits.{lt_or_ge, or_ge}
use Rattle.spec_ticks.proofs.Tables.{block_apart}
use Rattle.spec_tilco.specs.Inference.{Mark, mark, Marks, ◌or◌}
use Rattle.spec_tilco.specs.Table.{Stands}
use Rattle.table_marks.proofs.Marks.{gains_then, word_joined}
use Rattle.table_marks.specs.Puts.{AddsMarks}
use Rattle.table_words.specs.WordTicks.{Ticks, Here, Sides, Reads, Bits, room, Joins}
use Rattle.table_words.proofs.OneWord.{read_ticks}
use Rattle.table_words.proofs.Telling.{tells_none, tells_some}

-- A word that grows leaves as much less room.
room_set : (T : List ℕ) (i v : ℕ) → i < length T → get_or T i 0 ≤ v → v < 2 ^ 64 → room (set T i v) + v ≡ room T + get_or T i 0
unfolding room
room_set [] i v h l b = absurd (not-suc-le-zero h)
room_set (x ∷ xs) zero v h l b = omega arith
room_set (x ∷ xs) (suc i) v h l b = omega (arith, room_set xs i v (le_of_suc-le-suc h) l b)

-- The marks gained, said otherwise.
joins_set : {n : ℕ} {R : Marks} (Q : Marks) {T T' : List ℕ} {x : ℕ} → ((m : Mark) → R m ↔ Q m) → Joins n R T T' x → Joins n Q T T' x
joins_set {n} Q {T} {T'} f j = record { gains = record { size = j.gains.size; exactly = each }; tells = j.tells; small = j.small }
  where
    each : (m : Mark) → Stands n T' m ↔ (◌or◌ (Stands n T) Q) m
    each m = (
      λ i. ⊎_elim inl (λ h. inr ((f m).0 h)) ((j.gains.exactly m).0 i),
      ⊎_elim (λ i. (j.gains.exactly m).1 (inl i)) (λ h. (j.gains.exactly m).1 (inr ((f m).1 h))),
    )

-- ---- one word
module _ (n : ℕ) (T : List ℕ) (r : ℕ) (v : Bool) (q ticks : ℕ) (l : q < n) (i : ℕ) (e : i ≡ block r v * n + q) (inside : i < length T) where
  abbrev joined : ℕ
  joined = bit_or (get_or T i 0) ticks

  set_gains : (w : ℕ) → w ≡ joined → AddsMarks n (Here r v q (Bits ticks)) T (set T i w)
  set_gains w f = record { size = length-set T i w; exactly = each }
    where
      each : (m : Mark) → Stands n (set T i w) m ↔ (◌or◌ (Stands n T) (Here r v q (Bits ticks))) m
      each (mark x u y) = word_joined n T r v q ticks l i w e inside f x u y

  none_gained : joined ≡ get_or T i 0 → AddsMarks n (Here r v q (Bits ticks)) T T
  none_gained s = subst (AddsMarks n (Here r v q (Bits ticks)) T) (ap (set T i) s ∙ set-get_or T i 0) (set_gains joined refl)

  -- All of the ticks were there.
  pub joins_none : joined ≡ get_or T i 0 → Joins n (Here r v q (Bits ticks)) T T 0
  joins_none s = record { gains = none_gained s; tells = tells_none T; small = omega arith }

  -- Some of them were not.
  pub joins_some : get_or T i 0 < 2 ^ 64 → ticks < 2 ^ 64 → (joined ≡ get_or T i 0 → ⊥) → Joins n (Here r v q (Bits ticks)) T (set T i joined) 1
  joins_some a b f = record {
    gains = set_gains joined refl;
    tells = tells_some (omega (arith, f, or_ge (get_or T i 0) ticks, room_set T i joined inside (or_ge (get_or T i 0) ticks) (or_lt 64 (get_or T i 0) ticks a b)));
    small = omega arith;
  }

-- ---- both words of a row
-- A value is not its opposite.
pub not_apart : (u : Bool) → u ≡ not u → ⊥
not_apart true e = let z : ◌≡◌ {A = ℕ} 0 1 = cc in omega arith
not_apart false e = let z : ◌≡◌ {A = ℕ} 0 1 = cc in omega arith

-- Two words are as they were, by the test that the code makes.
same_words : (a b x y : ℕ) → bit_or (bit_xor x a) (bit_xor y b) ≡ 0 → (x ≡ a) × (y ≡ b)
same_words a b x y e =
    let f = or_ge (bit_xor x a) (bit_xor y b) in
    let g : bit_xor y b ≤ bit_or (bit_xor x a) (bit_xor y b) = rw or_comm (or_ge (bit_xor y b) (bit_xor x a)) in
    (same x a (omega arith), same y b (omega arith))
  where
    same : (x a : ℕ) → bit_xor x a ≡ 0 → x ≡ a
    same x a e = omega (arith, xor_add_and x a, and_le_l x a, and_le_r x a)

module _ (n : ℕ) (T : List ℕ) (r : ℕ) (u : Bool) (q v w : ℕ) (l : q < n) (i j : ℕ) (e : i ≡ block r u * n + q) (f : j ≡ block r (not u) * n + q)
    (hi : i < length T) (hj : j < length T) where
  abbrev x : ℕ
  x = bit_or (get_or T i 0) v

  abbrev y : ℕ
  y = bit_or (get_or T j 0) w

  abbrev changes : ℕ
  changes = bit_or (bit_xor x (get_or T i 0)) (bit_xor y (get_or T j 0))

  -- the words stand at two places
  apart : j ≡ i → ⊥
  apart z =
      let p : block r (not u) ≡ block r u = sym (digits_div (block r (not u)) l) ∙ ap (λ (k : ℕ). k / n) (sym f ∙ z ∙ e) ∙ digits_div (block r u) l in
      not_apart u (sym (block_apart r r (not u) u p).1)

  -- All of the ticks were there.
  pub sides_none : changes ≡ 0 → Joins n (Sides r u q (Bits v) (Bits w)) T T 0
  sides_none z = let s = same_words (get_or T i 0) (get_or T j 0) x y z in record {
    gains = gains_then n (Here r u q (Bits v)) (Here r (not u) q (Bits w)) (Sides r u q (Bits v) (Bits w)) (λ m. (λ h. h, λ h. h))
        (none_gained n T r u q v l i e hi s.0) (none_gained n T r (not u) q w l j f hj s.1);
    tells = tells_none T;
    small = omega arith;
  }

  -- Some of them were not.
  pub sides_some : get_or T i 0 < 2 ^ 64 → get_or T j 0 < 2 ^ 64 → v < 2 ^ 64 → w < 2 ^ 64 → (changes ≡ 0 → ⊥)
      → Joins n (Sides r u q (Bits v) (Bits w)) T (set (set T i x) j y) 1
  sides_some a b c d z = record {
    gains = gains_then n (Here r u q (Bits v)) (Here r (not u) q (Bits w)) (Sides r u q (Bits v) (Bits w)) (λ m. (λ h. h, λ h. h))
        (set_gains n T r u q v l i e hi x refl) (set_gains n (set T i x) r (not u) q w l j f within y (ap (λ (k : ℕ). bit_or k w) (sym after)));
    tells = tells_some (⊎_elim (λ g. omega (arith, first, second)) (λ g. absurd (z (equal g))) (lt_or_ge (get_or T i 0 + get_or T j 0) (x + y)));
    small = omega arith;
  }
    where
      within : j < length (set T i x)
      within = rw length-set hj

      after : get_or (set T i x) j 0 ≡ get_or T j 0
      after = get_or-set_other T i j x 0 apart

      first : room (set T i x) + x ≡ room T + get_or T i 0
      first = room_set T i x hi (or_ge (get_or T i 0) v) (or_lt 64 (get_or T i 0) v a c)

      second : room (set (set T i x) j y) + y ≡ room (set T i x) + get_or T j 0
      second = room_set (set T i x) j y within (omega (arith, after, or_ge (get_or T j 0) w)) (or_lt 64 (get_or T j 0) w b d) ∙ ap (λ (k : ℕ). room (set T i x) + k) after

      equal : x + y ≤ get_or T i 0 + get_or T j 0 → changes ≡ 0
      equal g =
          let p : x ≡ get_or T i 0 = omega (arith, or_ge (get_or T i 0) v, or_ge (get_or T j 0) w) in
          let q : y ≡ get_or T j 0 = omega (arith, or_ge (get_or T i 0) v, or_ge (get_or T j 0) w) in
          rw (p, q, xor_self (get_or T i 0), xor_self (get_or T j 0))

  -- The words as they stand then.
  pub words_none : changes ≡ 0 → Reads n T q r u x y
  words_none z =
      let s = same_words (get_or T i 0) (get_or T j 0) x y z in
      record { this = read_ticks n T r u q l (s.0 ∙ ap (λ (k : ℕ). get_or T k 0) e); other = read_ticks n T r (not u) q l (s.1 ∙ ap (λ (k : ℕ). get_or T k 0) f) }

  pub words_some : Reads n (set (set T i x) j y) q r u x y
  words_some = record {
    this = read_ticks n (set (set T i x) j y) r u q l (sym first ∙ ap (λ (k : ℕ). get_or (set (set T i x) j y) k 0) e);
    other = read_ticks n (set (set T i x) j y) r (not u) q l (sym second ∙ ap (λ (k : ℕ). get_or (set (set T i x) j y) k 0) f);
  }
    where
      first : get_or (set (set T i x) j y) i 0 ≡ x
      first = get_or-set_other (set T i x) j i y 0 (λ z. apart (sym z)) ∙ get_or-set_same T i x 0 hi

      second : get_or (set (set T i x) j y) j 0 ≡ y
      second = get_or-set_same (set T i x) j y 0 (rw length-set hj)

-- ---- the ticks of a word by what they say
pub here_as : (r : ℕ) (v : Bool) (q ticks : ℕ) (U : ℕ → Type 0) → Ticks q ticks U → (m : Mark) → Here r v q (Bits ticks) m ↔ Here r v q U m
here_as r v q ticks U f (mark x t y) = (
  λ h. (h.0, h.1, h.2, subst U (at h.2) ((f (t % 64) (omega arith)).0 h.3)),
  λ h. (h.0, h.1, h.2, (f (t % 64) (omega arith)).1 (subst U (sym (at h.2)) h.3)),
)
  where
    at : t / 64 ≡ q → q * 64 + t % 64 ≡ t
    at e = omega arith

pub joins_as : (n : ℕ) (T T' : List ℕ) (r : ℕ) (v : Bool) (q ticks changed : ℕ) (U : ℕ → Type 0) → Ticks q ticks U
    → Joins n (Here r v q (Bits ticks)) T T' changed → Joins n (Here r v q U) T T' changed
joins_as n T T' r v q ticks changed U f j = joins_set (Here r v q U) (here_as r v q ticks U f) j

pub sides_as : {n : ℕ} {T T' : List ℕ} (r : ℕ) (u : Bool) (q v w : ℕ) {x : ℕ} (U N : ℕ → Type 0) → Ticks q v U → Ticks q w N
    → Joins n (Sides r u q (Bits v) (Bits w)) T T' x → Joins n (Sides r u q U N) T T' x
sides_as r u q v w U N f g j = joins_set (Sides r u q U N) each j
  where
    each : (m : Mark) → Sides r u q (Bits v) (Bits w) m ↔ Sides r u q U N m
    each m = (
      ⊎_elim (λ h. inl ((here_as r u q v U f m).0 h)) (λ h. inr ((here_as r (not u) q w N g m).0 h)),
      ⊎_elim (λ h. inl ((here_as r u q v U f m).1 h)) (λ h. inr ((here_as r (not u) q w N g m).1 h)),
    )
