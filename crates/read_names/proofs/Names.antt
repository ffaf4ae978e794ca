-- Names: when two texts are the same, and which of a list of names a text is.
-- Assumes nothing.
use mathlib.Core.Path.{◌≡◌, refl, sym, ap, ◌∙◌}
use mathlib.Core.Logic.{◌↔◌}
use mathlib.Core.Bool.{Bool, true, false, false≢true, not, and-eq-true_iff}
use mathlib.Core.List.{List, [], ◌∷◌, ◌++◌, Memᴰ}
use Prim.Native.Nat.{ℕ, zero, suc, ◌+◌, ◌-◌, ◌<◌, ◌≤◌}
use native.Mathlib.Omega.{arith}
use native.Mathlib.Decide.{dec_lt}
use borrow.Author.Tests.{eqb-true, eqb-false, eq-eqb, ne_eqb, le-leb, lt-leb, leb-true, not-true}
use lib.Dec.{leb, eqb}
use lib.ListN.{length, get_or, length-append, get_or-append}
use lib.Seq.{get_or-append_seam}
use Rattle.std.specs.Prelude.{Option, Some, None}
use Rattle.spec_limits.specs.Limits.{most_name_bytes}
use Rattle.read_bytes.specs.Bytes.{bytes, byte, peek, pick, letter, name_byte, run_end, every}
use Rattle.read_names.specs.EndNumbers.{end_number, well_ended}
use Rattle.read_names.specs.Spellings.{spelling_at, spelling_end, names_at, same_text_lem, find_name, is_spelled, is_reserved, name_at, Spelled}
use Rattle.read_bytes.proofs.Values.{same_first, same_second, same_some, none_not}
use Rattle.read_bytes.proofs.Tests.{between_in}
use Rattle.read_bytes.proofs.Places.{Reach}
use Rattle.read_bytes.proofs.Runs.{run_byte}
use Rattle.read_names.proofs.Spelling.{word_ahead, is_word}

same_is : (a b : List ℕ) → same_text_lem a b ≡ true → a ≡ b
unfolding same_text_lem
same_is [] [] e = refl
same_is [] (y ∷ b) e = absurd (false≢true e)
same_is (x ∷ a) [] e = absurd (false≢true e)
same_is (x ∷ a) (y ∷ b) e =
    let w = (and-eq-true_iff (eqb x y) (same_text_lem a b)).0 e in
    let i = eqb-true x y w.0 in
    let j = same_is a b w.1 in
    cc

same_self : (a : List ℕ) → same_text_lem a a ≡ true
unfolding same_text_lem
same_self [] = refl
same_self (x ∷ a) = rw (eq-eqb x x refl, same_self a)

eqb_sym : (x y : ℕ) → eqb x y ≡ eqb y x
eqb_sym x y = go (eqb x y) refl
  where
    go : (b : Bool) → eqb x y ≡ b → b ≡ eqb y x
    go true e = sym (eq-eqb y x (sym (eqb-true x y e)))
    go false e = sym (ne_eqb y x (λ i. eqb-false x y e (sym i)))

same_sym : (a b : List ℕ) → same_text_lem a b ≡ same_text_lem b a
unfolding same_text_lem
same_sym [] [] = refl
same_sym [] (y ∷ b) = refl
same_sym (x ∷ a) [] = refl
same_sym (x ∷ a) (y ∷ b) = rw (eqb_sym x y, same_sym a b)

pub same_text : (a b : List ℕ) → (same_text_lem a b ≡ true) ↔ (a ≡ b)
same_text a b = (same_is a b, λ e. rw e (same_self b))

-- The spelling at a, held against a spelling w.
module _ (s : List ℕ) (a : ℕ) (w : List ℕ) where
  pub word_same : every name_byte w ≡ true → is_spelled s a w ≡ same_text_lem (spelling_at s a) w
  word_same h = is_word s a w h ∙ same_sym w (spelling_at s a)

  -- Where there is no room for w, or another byte in the place of the one at k, it is another spelling.
  pub word_other : (k : ℕ) → k < length w → (a + length w ≤ length s → get_or s (k + a) 0 ≡ get_or w k 0 → ⊥) → same_text_lem (spelling_at s a) w ≡ false
  word_other k h differs = go (same_text_lem (spelling_at s a) w) refl
    where
      go : (b : Bool) → same_text_lem (spelling_at s a) w ≡ b → b ≡ false
      go false e = refl
      go true e =
          let i = same_is (spelling_at s a) w e in
          let n = ap length i in
          let r = run_byte name_byte s a k (omega arith) in
          absurd (differs (omega (arith, r.0)) (sym r.1 ∙ ap (λ l. get_or l k 0) i))

  -- It is as long as w where it is w.
  word_long : every name_byte w ≡ true → is_spelled s a w ≡ true → length (spelling_at s a) ≡ length w
  word_long h e = ap length (same_is (spelling_at s a) w (sym (word_same h) ∙ e))

  not_long : every name_byte w ≡ true → (length (spelling_at s a) ≡ length w → ⊥) → is_spelled s a w ≡ false
  not_long h n = go (is_spelled s a w) refl
    where
      go : (b : Bool) → is_spelled s a w ≡ b → b ≡ false
      go false e = refl
      go true e = absurd (n (word_long h e))

-- The reserved words, one after the other.
module _ (s : List ℕ) (p : ℕ) where
  pub reserved_since : is_spelled s p (bytes "since") ≡ true → true ≡ is_reserved s p
  unfolding is_reserved
  reserved_since a = rw a

  pub reserved_until : is_spelled s p (bytes "since") ≡ false → is_spelled s p (bytes "until") ≡ is_reserved s p
  unfolding is_reserved
  reserved_until a = rw a

-- Each has five bytes.
pub reserved_five : {s : List ℕ} {p e : ℕ} → Spelled s p e → (e - p ≡ 5 → ⊥) → false ≡ is_reserved s p
unfolding is_reserved every name_byte run_end
reserved_five {s} {p} {e} h n =
    let long : length (spelling_at s p) ≡ 5 → ⊥ = λ l. n (omega (arith, l, h.ends)) in
    rw (not_long s p (bytes "since") refl long, not_long s p (bytes "until") refl long)

-- Whether the first name is w settles the search there, or moves it on by one.
module _ (w n : List ℕ) (ns : List (List ℕ)) where
  pub find_here : same_text_lem n w ≡ true → find_name w (n ∷ ns) ≡ 0
  unfolding find_name
  find_here e = rw e

  pub find_later : same_text_lem n w ≡ false → find_name w (n ∷ ns) ≡ suc (find_name w ns)
  unfolding find_name
  find_later e = rw e

-- A number found is that of a name which is w.
pub find_is : (w : List ℕ) (ns : List (List ℕ)) → find_name w ns < length ns → get_or ns (find_name w ns) [] ≡ w
find_is w [] h = let z : ⊥ = omega arith in absurd z
find_is w (n ∷ ns) h = go (same_text_lem n w) refl (find_is w ns)
  where
    go : (b : Bool) → same_text_lem n w ≡ b → (find_name w ns < length ns → get_or ns (find_name w ns) [] ≡ w) → get_or (n ∷ ns) (find_name w (n ∷ ns)) [] ≡ w
    go true e k = rw (find_here w n ns e) (same_is n w e)
    go false e k = let l = find_later w n ns e in rw l (k (omega arith))

-- A number is found for each of the names.
find_of : (w : List ℕ) (ns : List (List ℕ)) → Memᴰ w ns → find_name w ns < length ns
find_of w [] m = elim m [ ]
find_of w (n ∷ ns) (Memᴰ.head i) =
    let e = find_here w n ns (rw i (same_self n)) in
    omega arith
find_of w (n ∷ ns) (Memᴰ.tail m) = go (same_text_lem n w) refl (find_of w ns m)
  where
    go : (b : Bool) → same_text_lem n w ≡ b → find_name w ns < length ns → find_name w (n ∷ ns) < length (n ∷ ns)
    go true e k = let l = find_here w n ns e in omega arith
    go false e k = let l = find_later w n ns e in omega arith

member : (ns : List (List ℕ)) (i : ℕ) (w : List ℕ) → i < length ns → get_or ns i [] ≡ w → Memᴰ w ns
member [] i w h e = let z : ⊥ = omega arith in absurd z
member (n ∷ ns) zero w h e = Memᴰ.head (sym e)
member (n ∷ ns) (suc i) w h e = let k : i < length ns = omega arith in Memᴰ.tail (member ns i w k e)

pub find_in : (w : List ℕ) (ns : List (List ℕ)) → (find_name w ns < length ns) ↔ Memᴰ w ns
find_in w ns = (λ h. member ns (find_name w ns) w h (find_is w ns h), find_of w ns)

pub find_most : (w : List ℕ) (ns : List (List ℕ)) → find_name w ns ≤ length ns
unfolding find_name
find_most w [] = omega arith
find_most w (n ∷ ns) = go (same_text_lem n w) refl (find_most w ns)
  where
    go : (b : Bool) → same_text_lem n w ≡ b → find_name w ns ≤ length ns → find_name w (n ∷ ns) ≤ length (n ∷ ns)
    go true e k = let l = find_here w n ns e in omega arith
    go false e k = let l = find_later w n ns e in omega arith

-- No two of the names are the same.
abbrev pub Differ : List (List ℕ) → Type 0
Differ ns = (x y : ℕ) → x < length ns → y < length ns → get_or ns x [] ≡ get_or ns y [] → x ≡ y

-- A name that is not found is new.
pub differ_more : (ns : List (List ℕ)) (w : List ℕ) → Differ ns → find_name w ns ≡ length ns → Differ (ns ++ (w ∷ []))
differ_more ns w d new x y h k e = go (dec_lt x (length ns)) (dec_lt y (length ns))
  where
    long : length (ns ++ (w ∷ [])) ≡ length ns + 1
    long = length-append ns (w ∷ [])

    last : (z : ℕ) → z < length (ns ++ (w ∷ [])) → (z < length ns → ⊥) → (z ≡ length ns) × (get_or (ns ++ (w ∷ [])) z [] ≡ w)
    last z l n =
        let i : z ≡ length ns = omega (arith, long) in
        (i, ap (λ j. get_or (ns ++ (w ∷ [])) j []) i ∙ get_or-append_seam ns w [] [])

    -- none of those before is w
    old : (z : ℕ) → z < length ns → get_or ns z [] ≡ w → ⊥
    old z l i = let f = find_of w ns (member ns z w l i) in omega arith

    go : Dec (x < length ns) → Dec (y < length ns) → x ≡ y
    go (yes i) (yes j) = d x y i j (sym (get_or-append ns (w ∷ []) [] x i) ∙ e ∙ get_or-append ns (w ∷ []) [] y j)
    go (yes i) (no j) = absurd (old x i (sym (get_or-append ns (w ∷ []) [] x i) ∙ e ∙ (last y k j).1))
    go (no i) (yes j) = absurd (old y j (sym (get_or-append ns (w ∷ []) [] y j) ∙ sym e ∙ (last x h i).1))
    go (no i) (no j) = (last x h i).0 ∙ sym (last y k j).0

-- THE NAMES AT PLACES OF A TEXT
pub names_many : (s ps : List ℕ) → length (names_at s ps) ≡ length ps
unfolding names_at
names_many s [] = refl
names_many s (p ∷ ps) = ap suc (names_many s ps)

pub names_append : (s ps qs : List ℕ) → names_at s (ps ++ qs) ≡ names_at s ps ++ names_at s qs
unfolding names_at
names_append s [] qs = refl
names_append s (p ∷ ps) qs = rw (names_append s ps qs)

-- The name at the i-th place.
pub names_at_lem : (s ps : List ℕ) (i : ℕ) → i < length ps → get_or (names_at s ps) i [] ≡ spelling_at s (get_or ps i 0)
unfolding names_at
names_at_lem s [] i h = absurd (omega arith)
names_at_lem s (p ∷ ps) zero h = refl
names_at_lem s (p ∷ ps) (suc i) h = names_at_lem s ps i (omega arith)

-- NAMES OF A SHEET
module _ (s : List ℕ) (p b : ℕ) (eb : b ≡ peek s p) where
  pub name_not : letter b ≡ false → None ≡ name_at s p
  unfolding name_at
  name_not h = let m : letter (peek s p) ≡ false = rw eb at h in rw m

  module _ (e : ℕ) (ee : e ≡ spelling_end s p) (lo : byte "a" ≤ b) (hi : b ≤ byte "z") where
    first_letter : letter (peek s p) ≡ true
    first_letter = rw eb at (between_in (byte "a") (byte "z") b lo hi)

    pub name_long : most_name_bytes < e - p → None ≡ name_at s p
    unfolding name_at run_end
    name_long h = rw (first_letter, lt-leb (length (spelling_at s p)) most_name_bytes (omega arith))

    short : e - p ≤ most_name_bytes → leb (length (spelling_at s p)) most_name_bytes ≡ true
    unfolding run_end
    short h = le-leb (length (spelling_at s p)) most_name_bytes (omega arith)

    module _ (h : e - p ≤ most_name_bytes) where
      pub name_reserved : is_reserved s p ≡ true → None ≡ name_at s p
      unfolding name_at is_reserved
      name_reserved a = go (is_spelled s p (bytes "since")) refl (is_spelled s p (bytes "until")) refl
        where
          go : (b : Bool) → is_spelled s p (bytes "since") ≡ b → (d : Bool) → is_spelled s p (bytes "until") ≡ d → None ≡ name_at s p
          go true f d g = rw (first_letter, short h, f)
          go false f true g = rw (first_letter, short h, f, g)
          go false f false g = absurd (false≢true (sym (rw (f, g)) ∙ a))

      pub name_is : is_reserved s p ≡ false → pick (well_ended (spelling_at s p)) (λ _. Some (e, end_number (spelling_at s p))) None ≡ name_at s p
      unfolding name_at is_reserved
      name_is a = go (is_spelled s p (bytes "since")) refl (is_spelled s p (bytes "until")) refl
        where
          go : (b : Bool) → is_spelled s p (bytes "since") ≡ b → (d : Bool) → is_spelled s p (bytes "until") ≡ d → pick (well_ended (spelling_at s p)) (λ _. Some (e, end_number (spelling_at s p))) None ≡ name_at s p
          go true f d g = absurd (false≢true (sym a ∙ rw f))
          go false f true g = absurd (false≢true (sym a ∙ rw (f, g)))
          go false f false g = rw (first_letter, short h, f, g, ← ee)

-- What a name is, and the number at its end.
pub record Named (s : List ℕ) (p q : ℕ) (n : Option ℕ) : Type 0 where
  pub first : letter (peek s p) ≡ true
  pub short : length (spelling_at s p) ≤ most_name_bytes
  pub not_since : is_spelled s p (bytes "since") ≡ false
  pub not_until : is_spelled s p (bytes "until") ≡ false
  pub ended : well_ended (spelling_at s p) ≡ true
  pub ends : q ≡ spelling_end s p
  pub number : n ≡ end_number (spelling_at s p)

passed : (b : Bool) (e : ℕ) (m : Option ℕ) {q : ℕ} {n : Option ℕ} → ◌≡◌ {A = Option (ℕ × Option ℕ)} (pick b (λ _. Some (e, m)) None) (Some (q, n)) → (b ≡ true) × (q ≡ e) × (n ≡ m)
passed true e m f = (refl, sym (same_first (same_some f)), sym (same_second (same_some f)))
passed false e m f = absurd (none_not f)

pub named : (s : List ℕ) (p : ℕ) {q : ℕ} {n : Option ℕ} → name_at s p ≡ Some (q, n) → Named s p q n
unfolding name_at
named s p h =
    let t = passed _ (spelling_end s p) (end_number (spelling_at s p)) h in
    let f = (and-eq-true_iff _ (well_ended (spelling_at s p))).0 t.0 in
    let d = (and-eq-true_iff _ (not (is_spelled s p (bytes "until")))).0 f.0 in
    let b = (and-eq-true_iff _ (not (is_spelled s p (bytes "since")))).0 d.0 in
    let a = (and-eq-true_iff (letter (peek s p)) (leb (length (spelling_at s p)) most_name_bytes)).0 b.0 in
    record {
      first = a.0;
      short = leb-true (length (spelling_at s p)) most_name_bytes a.1;
      not_since = not-true (is_spelled s p (bytes "since")) b.1;
      not_until = not-true (is_spelled s p (bytes "until")) d.1;
      ended = f.1;
      ends = t.1;
      number = t.2;
    }

-- Where a name ends.
pub name_reach : (s : List ℕ) (p : ℕ) {q : ℕ} {n : Option ℕ} → name_at s p ≡ Some (q, n) → Reach s (p + 1) q × (q ≤ p + most_name_bytes)
unfolding run_end name_byte
name_reach s p h =
    let n = named s p h in
    let f : name_byte (peek s p) ≡ true = rw n.first in
    let r = word_ahead s p f in
    (record { ahead = omega (arith, n.ends, r.ahead); inside = omega (arith, n.ends, r.inside) }, omega (arith, n.ends, n.short))
