-- Marks put into a table: none, one after others, and one by its word; and whether a mark stands there.
-- Assumes nothing.
use mathlib.Core.Path.{◌≡◌, refl, sym, ap, ◌∙◌, subst}
use mathlib.Core.Bool.{Bool, true}
use mathlib.Core.List.Memᴰ
use mathlib.Core.List.{List, [], ◌∷◌, ◌++◌}
use mathlib.Core.Logic.{◌⊎◌, ◌↔◌, inl, inr, ⊎_elim}
use Prim.Native.Nat.{ℕ, ◌+◌, ◌*◌, ◌/◌, ◌%◌, ◌^◌, ◌<◌}
use native.Mathlib.Decide.{ℕ_discrete}
use native.Mathlib.Nat.{mod-eq_of_lt, one-mul}
use native.Mathlib.Omega.{arith}
use borrow.Author.Tests.{eqb-true, eq-eqb}
use lib.Arith.{digits_div, digits_mod}
use lib.Bits.{bit_or}
use lib.Dec.{eqb}
use lib.ListN.{length, get_or, set, length-set}
use lib.Pow.{pow-lt}
use lib.Seq.{get_or-set_same, get_or-set_other}
use Rattle.spec_ticks.specs.Ticks.{bit, Has, block}
use Rattle.spec_ticks.proofs.Bits.{or_left, or_right, or_out}
use Rattle.spec_ticks.proofs.Shifts.{one_has, one_only}
use Rattle.spec_ticks.proofs.Tables.{block_apart}
use Rattle.spec_tilco.specs.Inference.{Mark, mark, Marks, ◌or◌}
use Rattle.spec_tilco.specs.Table.{Stands, ReadMarks}
use Rattle.table_marks.specs.Puts.{AddsMarks, Puts}

-- No mark gained.
pub gains_none : (n : ℕ) (R : Marks) (T : List ℕ) → ((m : Mark) → R m → ⊥) → AddsMarks n R T T
gains_none n R T f = record { size = refl; exactly = λ m. (inl, ⊎_elim (λ i. i) (λ h. absurd (f m h))) }

-- Marks gained one set after the other.
pub gains_then : (n : ℕ) (R Q S : Marks) {T T' T'' : List ℕ} → ((m : Mark) → (◌or◌ R Q) m ↔ S m) → AddsMarks n R T T' → AddsMarks n Q T' T'' → AddsMarks n S T T''
gains_then n R Q S f a b = record {
  size = b.size ∙ a.size;
  exactly = λ m. (
    λ i. ⊎_elim (λ j. ⊎_elim inl (λ h. inr ((f m).0 (inl h))) ((a.exactly m).0 j)) (λ h. inr ((f m).0 (inr h))) ((b.exactly m).0 i),
    ⊎_elim (λ i. (b.exactly m).1 (inl ((a.exactly m).1 (inl i))))
        (λ h. ⊎_elim (λ j. (b.exactly m).1 (inl ((a.exactly m).1 (inr j)))) (λ j. (b.exactly m).1 (inr j)) ((f m).1 h)),
  );
}

-- No mark put leaves the table as it is.
pub puts_none : (n : ℕ) (T : List ℕ) → Puts n [] T T
puts_none n T = gains_none n (ReadMarks []) T (λ m i. Memᴰ.not-nil i)

-- The same list of marks.
pub puts_same : {n : ℕ} (ms ns : List Mark) {T T' : List ℕ} → ms ≡ ns → Puts n ms T T' → Puts n ns T T'
puts_same {n} ms ns {T} {T'} e a = subst (λ (l : List Mark). Puts n l T T') e a

-- A mark put after others is put with them.
pub puts_more : {n : ℕ} (ms : List Mark) (m : Mark) {T T' T'' : List ℕ} → Puts n ms T T' → Puts n (m ∷ []) T' T'' → Puts n (ms ++ (m ∷ [])) T T''
puts_more {n} ms m a b =
    gains_then n (ReadMarks ms) (ReadMarks (m ∷ [])) (ReadMarks (ms ++ (m ∷ [])))
    (λ x. (⊎_elim (Memᴰ.append_left (m ∷ [])) (Memᴰ.append_right ms), λ i. Memᴰ.append_cases ms i)) a b

-- The word of tick t alone, as the code makes it.
pub one_word : (t : ℕ) → t < 64 → (1 * 2 ^ t) % 2 ^ 64 ≡ 2 ^ t
one_word t h = rw one-mul (mod-eq_of_lt (pow-lt h))

-- Ticks joined to word q of a row's marks of one value: these are in the table besides what was in it, and no other.
module _ (n : ℕ) (T : List ℕ) (row : ℕ) (v : Bool) (q ticks : ℕ) (l : q < n) (i w : ℕ) (e : i ≡ block row v * n + q) (inside : i < length T) (f : w ≡ bit_or (get_or T i 0) ticks) where
  module _ (x u : ℕ) (y : Bool) where
    -- the place of a mark's word
    abbrev here : ℕ
    here = block x y * n + u / 64

    -- one place is one row's, one value's and one word's
    same_place : u < n * 64 → here ≡ i → (x ≡ row) × (y ≡ v) × (u / 64 ≡ q)
    same_place k g =
        let a : u / 64 < n = omega arith in
        let j : here ≡ block row v * n + q = g ∙ e in
        let p : block x y ≡ block row v = sym (digits_div (block x y) a) ∙ ap (λ (z : ℕ). z / n) j ∙ digits_div (block row v) l in
        let z = block_apart x row y v p in
        (z.0, z.1, sym (digits_mod (block x y) a) ∙ ap (λ (z : ℕ). z % n) j ∙ digits_mod (block row v) l)

    -- a mark that stands after stood before or is one of these
    to : Stands n (set T i w) (mark x u y) → Stands n T (mark x u y) ⊎ ((x ≡ row) × (y ≡ v) × (u / 64 ≡ q) × Has ticks (u % 64))
    to m = go (ℕ_discrete here i)
      where
        go : Dec (here ≡ i) → Stands n T (mark x u y) ⊎ ((x ≡ row) × (y ≡ v) × (u / 64 ≡ q) × Has ticks (u % 64))
        go (yes g) =
            let d : get_or (set T i w) here 0 ≡ bit_or (get_or T here 0) ticks = rw g (get_or-set_same T i w 0 inside ∙ f) in
            let z = same_place m.within g in
            ⊎_elim (λ a. inl (record { within = m.within; set_at = a })) (λ a. inr (z.0, z.1, z.2, a))
            (or_out (get_or T here 0) ticks (u % 64) (subst (λ (z : ℕ). Has z (u % 64)) d m.set_at))
        go (no g) = inl (record { within = m.within; set_at = subst (λ (z : ℕ). Has z (u % 64)) (get_or-set_other T i here w 0 g) m.set_at })

    -- a mark that stood before stands after
    old : Stands n T (mark x u y) → Stands n (set T i w) (mark x u y)
    old m = go (ℕ_discrete here i)
      where
        go : Dec (here ≡ i) → Stands n (set T i w) (mark x u y)
        go (yes g) =
            let d : bit_or (get_or T here 0) ticks ≡ get_or (set T i w) here 0 = rw g (sym (get_or-set_same T i w 0 inside ∙ f)) in
            record { within = m.within; set_at = subst (λ (z : ℕ). Has z (u % 64)) d (or_left (get_or T here 0) ticks (u % 64) m.set_at) }
        go (no g) = record { within = m.within; set_at = subst (λ (z : ℕ). Has z (u % 64)) (sym (get_or-set_other T i here w 0 g)) m.set_at }

    -- these stand after
    new : x ≡ row → y ≡ v → u / 64 ≡ q → Has ticks (u % 64) → Stands n (set T i w) (mark x u y)
    new a b c h =
        let g : i ≡ here = cc (e, a, b, c) in
        record {
          within = omega (arith, l, c);
          set_at = subst (λ (z : ℕ). Has z (u % 64)) (sym (ap (λ (z : ℕ). get_or (set T i w) z 0) (sym g) ∙ get_or-set_same T i w 0 inside ∙ f)) (or_right (get_or T i 0) ticks (u % 64) h);
        }

    pub word_joined : Stands n (set T i w) (mark x u y) ↔ (Stands n T (mark x u y) ⊎ ((x ≡ row) × (y ≡ v) × (u / 64 ≡ q) × Has ticks (u % 64)))
    word_joined = (to, ⊎_elim old (λ h. new h.0 h.1 h.2 h.3))

-- A mark put by its word.
pub puts_word : (n : ℕ) (T : List ℕ) (row t : ℕ) (v : Bool) → t < n * 64 → (i w : ℕ) → i ≡ block row v * n + t / 64 → i < length T → w ≡ bit_or (get_or T i 0) (2 ^ (t % 64))
    → Puts n (mark row t v ∷ []) T (set T i w)
puts_word n T row t v h i w e l f = record { size = length-set T i w; exactly = both }
  where
    joined : (x u : ℕ) (y : Bool) → Stands n (set T i w) (mark x u y) ↔ (Stands n T (mark x u y) ⊎ ((x ≡ row) × (y ≡ v) × (u / 64 ≡ t / 64) × Has (2 ^ (t % 64)) (u % 64)))
    joined = word_joined n T row v (t / 64) (2 ^ (t % 64)) (omega arith) i w e l f

    -- one word and one bit are one mark's
    same : (x u : ℕ) (y : Bool) → x ≡ row → y ≡ v → u / 64 ≡ t / 64 → u % 64 ≡ t % 64 → mark x u y ≡ mark row t v
    same x u y a b c d = let z : u ≡ t = omega arith in cc (a, b, z)

    both : (m : Mark) → Stands n (set T i w) m ↔ (◌or◌ (Stands n T) (ReadMarks (mark row t v ∷ []))) m
    both (mark x u y) = (
      λ m. ⊎_elim inl (λ a. inr (Memᴰ.head (same x u y a.0 a.1 a.2 (one_only (t % 64) (u % 64) a.3)))) ((joined x u y).0 m),
      ⊎_elim (λ m. (joined x u y).1 (inl m)) (λ a. subst (Stands n (set T i w)) (sym (Memᴰ.eq_of_singleton a)) ((joined row t v).1 (inr (refl, refl, refl, one_has (t % 64))))),
    )

-- The same, as the code makes the word at place i.
pub puts_made : (n : ℕ) (T : List ℕ) (row t : ℕ) (v : Bool) → t < n * 64 → (i : ℕ) → i ≡ block row v * n + t / 64 → i < length T
    → Puts n (mark row t v ∷ []) T (set T i (bit_or (get_or T i 0) ((1 * 2 ^ (t % 64)) % 2 ^ 64)))
puts_made n T row t v h i e l =
    puts_word n T row t v h i (bit_or (get_or T i 0) ((1 * 2 ^ (t % 64)) % 2 ^ 64)) e l (ap (bit_or (get_or T i 0)) (one_word (t % 64) (omega arith)))

-- A mark stands exactly if its bit, as the code reads it at place i, is one.
pub stands_made : (n : ℕ) (T : List ℕ) (row t : ℕ) (v : Bool) → t < n * 64 → (i : ℕ) → i ≡ block row v * n + t / 64
    → (eqb (get_or T i 0 / 2 ^ (t % 64) % 2) 1 ≡ true) ↔ Stands n T (mark row t v)
unfolding bit
stands_made n T row t v h i e =
    let d = ap (λ (z : ℕ). get_or T z 0 / 2 ^ (t % 64) % 2) e in
    (λ a. record { within = h; set_at = sym d ∙ eqb-true _ 1 a }, λ m. eq-eqb _ 1 (d ∙ m.set_at))
