-- Lines: each answer of a reader of lines, and where the line's value and what follows the line stand.
-- Assumes nothing.
use mathlib.Core.Path.{◌≡◌, refl, sym, ap, ◌∙◌}
use mathlib.Core.Bool.{true, false, ◌&&◌, and-eq-true_iff}
use mathlib.Core.List.{List}
use Prim.Native.Nat.{ℕ, ◌+◌, ◌<◌, ◌≤◌}
use native.Mathlib.Omega.{arith}
use borrow.Author.Tests.{eq-eqb, ne_eqb, eqb-true, not-false, ltb-true, lt-ltb, le-ltb}
use lib.Dec.{eqb, ltb}
use lib.ListN.{length, get_or}
use Rattle.std.specs.Prelude.{Option, Some, None}
use Rattle.read_bytes.specs.Read.{Read, and_then}
use Rattle.read_bytes.specs.Read.Read.{got, refused}
use Rattle.read_bytes.specs.Bytes.{byte, pick, between, peek, starts, run_end}
use Rattle.read_names.specs.EndNumbers.{end_number}
use Rattle.read_names.specs.Spellings.{spelling_at, name_at}
use Rattle.read_names.proofs.Names.{named}
use Rattle.read_bytes.specs.Numbers.{number}
use Rattle.read_lines.specs.Lines.{in_line, line_end, line, whole, whole_number, whole_name, number_line, ranged_line, name_line}
use Rattle.read_bytes.proofs.Tests.{between_in, between_is}
use Rattle.read_bytes.proofs.Places.{Reach}
use Rattle.read_bytes.proofs.Runs.{end_more, end_here, end_stops}
use Rattle.read_bytes.proofs.Answers.{not_both, through, came}

pub lf_ends : (b : ℕ) → b ≡ byte "\n" → in_line b ≡ false
unfolding in_line
lf_ends b e = rw (eq-eqb b (byte "\n") e)

pub lf_not : (b : ℕ) → (b ≡ byte "\n" → ⊥) → in_line b ≡ true
unfolding in_line
lf_not b n = rw (ne_eqb b (byte "\n") n)

-- A line that reaches the byte k after i goes on past it if it is no LF, and else ends there.
module _ (s : List ℕ) (p i k : ℕ) (l : i + k < length s) (e : line_end s p ≡ line_end s (i + k)) where
  pub past_byte : (get_or s (i + k) 0 ≡ byte "\n" → ⊥) → line_end s p ≡ line_end s (i + (k + 1))
  past_byte n =
      let a : i + k + 1 ≡ i + (k + 1) = omega arith in
      e ∙ end_more in_line s (i + k) l (lf_not (get_or s (i + k) 0) n) ∙ ap (line_end s) a

  pub at_byte : get_or s (i + k) 0 ≡ byte "\n" → i + k ≡ line_end s p
  at_byte h = sym (e ∙ end_here in_line s (i + k) l (lf_ends (get_or s (i + k) 0) h))

-- A line that reaches i goes on past four bytes that are no LF.
pub past_four : (s : List ℕ) (p i : ℕ) → i + 3 < length s → line_end s p ≡ line_end s i → (get_or s i 0 ≡ byte "\n" → ⊥) → (get_or s (i + 1) 0 ≡ byte "\n" → ⊥) → (get_or s (i + 2) 0 ≡ byte "\n" → ⊥) → (get_or s (i + 3) 0 ≡ byte "\n" → ⊥)
    → line_end s p ≡ line_end s (i + 4)
past_four s p i l e n n1 n2 n3 =
    let one = e ∙ end_more in_line s i (omega arith) (lf_not (get_or s i 0) n) in
    let two = past_byte s p i 1 (omega arith) one n1 in
    let three = past_byte s p i 2 (omega arith) two n2 in
    past_byte s p i 3 l three n3

-- A value takes its line whole, or not.
module _ (x q e n p : ℕ) where
  pub whole_is : q ≡ e → got x (e + 1) ≡ whole x q e n p
  whole_is h = rw (eq-eqb q e h)

  pub whole_not : (q ≡ e → ⊥) → refused n p ≡ whole x q e n p
  whole_not h = rw (ne_eqb q e h)

-- A number that was read is from lo to hi, or not.
module _ (lo hi content v : ℕ) {R : Read ℕ} {x q : ℕ} (a : R ≡ got x q) where
  pub range_in : lo ≤ x → x ≤ hi → got x q ≡ and_then R (λ y r. pick (between lo hi y) (λ _. got y r) (refused content v))
  range_in l h = rw (a, between_in lo hi x l h)

  pub range_out : between lo hi x ≡ false → refused content v ≡ and_then R (λ y r. pick (between lo hi y) (λ _. got y r) (refused content v))
  range_out o = rw (a, o)

module _ (s : List ℕ) (p : ℕ) (key : List ℕ) (form : ℕ) where
  module _ (e : ℕ) (a : starts s p key ≡ true) (d : e ≡ line_end s (p + length key)) where
    pub line_is : e < length s → got (p + length key) e ≡ line s p key form
    unfolding line
    line_is l =
        let y : ltb (line_end s (p + length key)) (length s) ≡ true = rw d at (lt-ltb e (length s) l) in
        rw (a, y, d)

    pub line_open : length s ≤ e → refused form p ≡ line s p key form
    unfolding line
    line_open l =
        let y : ltb (line_end s (p + length key)) (length s) ≡ false = rw d at (le-ltb e (length s) l) in
        rw (a, y)

  pub line_not : starts s p key ≡ false → refused form p ≡ line s p key form
  unfolding line
  line_not a = rw a

  module _ {v e : ℕ} (a : line s p key form ≡ got v e) where
    pub number_line_is : {n : Option (ℕ × ℕ)} → number s v ≡ n → whole_number p form e n ≡ number_line s p key form
    unfolding number_line
    number_line_is b = rw (a, b)

    pub name_line_is : (content : ℕ) {w : Option (ℕ × Option ℕ)} → name_at s v ≡ w → whole_name v content e w ≡ name_line s p key form content
    unfolding name_line
    name_line_is content b = rw (a, b)

  pub ranged_in : (content lo hi : ℕ) {x q : ℕ} → number_line s p key form ≡ got x q → lo ≤ x → x ≤ hi → got x q ≡ ranged_line s p key form content lo hi
  unfolding ranged_line
  ranged_in content lo hi a l h = range_in lo hi content (p + length key) a l h

-- Where a line's value and its LF stand.
pub record Placed (s : List ℕ) (p : ℕ) (key : List ℕ) (v e : ℕ) : Type 0 where
  pub keyed : starts s p key ≡ true
  pub value : v ≡ p + length key
  pub ends : e ≡ line_end s v
  pub order : v ≤ e
  pub inside : e < length s
  pub lf : peek s e ≡ byte "\n"

pub placed : (s : List ℕ) (p : ℕ) (key : List ℕ) (form : ℕ) {v e : ℕ} → line s p key form ≡ got v e → Placed s p key v e
unfolding line run_end in_line
placed s p key form {v} {e} h =
    let t = through (starts s p key && ltb (line_end s (p + length key)) (length s)) (p + length key) (line_end s (p + length key)) form p h in
    let w = (and-eq-true_iff (starts s p key) (ltb (line_end s (p + length key)) (length s))).0 t.0 in
    let l = ltb-true (line_end s (p + length key)) (length s) w.1 in
    let n = end_stops in_line s (p + length key) l in
    record {
      keyed = w.0;
      value = sym t.1;
      ends = sym t.2 ∙ ap (line_end s) t.1;
      order = omega (arith, t.1, t.2);
      inside = omega (arith, t.2, l);
      lf = eqb-true (peek s e) (byte "\n") (not-false (eqb (peek s e) (byte "\n")) (rw t.2 at n));
    }

-- What a line that was read holds, from its value's place to its LF, and the place after it.
pub record Held (s : List ℕ) (p : ℕ) (key : List ℕ) (What : ℕ → ℕ → Type 0) (q : ℕ) : Type 0 where
  pub value : ℕ
  pub lf : ℕ
  pub at : Placed s p key value lf
  pub what : What value lf
  pub next : lf + 1 ≡ q

pub number_held : (s : List ℕ) (p : ℕ) (key : List ℕ) (form : ℕ) {x q : ℕ} → number_line s p key form ≡ got x q → Held s p key (λ v e. number s v ≡ Some (x, e)) q
unfolding number_line
number_held s p key form {x} {q} h =
    let d = came (line s p key form) (λ v e. whole_number p form e (number s v)) h in
    let w = go d.place (number s d.value) d.then in
    record { value = d.value; lf = d.place; at = placed s p key form d.first; what = w.0; next = w.1 }
  where
    go : (e : ℕ) (n : Option (ℕ × ℕ)) → whole_number p form e n ≡ got x q → (n ≡ Some (x, e)) × (e + 1 ≡ q)
    go e (Some (y, z)) f =
        let t = through (eqb z e) y (e + 1) form p f in
        let i = eqb-true z e t.0 in
        let j = t.1 in
        (cc, t.2)
    go e None f = absurd (not_both (sym f))

pub name_held : (s : List ℕ) (p : ℕ) (key : List ℕ) (form content : ℕ) {x q : ℕ} → name_line s p key form content ≡ got x q → Held s p key (λ v e. (name_at s v ≡ Some (e, end_number (spelling_at s v))) × (v ≡ x)) q
unfolding name_line
name_held s p key form content {x} {q} h =
    let d = came (line s p key form) (λ v e. whole_name v content e (name_at s v)) h in
    let w = go d.value d.place (name_at s d.value) refl d.then in
    record { value = d.value; lf = d.place; at = placed s p key form d.first; what = (w.0, w.1); next = w.2 }
  where
    go : (v e : ℕ) (w : Option (ℕ × Option ℕ)) → name_at s v ≡ w → whole_name v content e w ≡ got x q → (name_at s v ≡ Some (e, end_number (spelling_at s v))) × (v ≡ x) × (e + 1 ≡ q)
    go v e (Some (z, n)) a f =
        let t = through (eqb z e) v (e + 1) content v f in
        let i = eqb-true z e t.0 in
        let m = (named s v a).number in
        (cc, t.1, t.2)
    go v e None a f = absurd (not_both (sym f))

-- What follows a line stands after it, whatever the line holds.
pub line_past : {s : List ℕ} {p : ℕ} {key : List ℕ} {What : ℕ → ℕ → Type 0} {q : ℕ} → Held s p key What q → Reach s (p + 1) q
line_past h =
    let w = h.at in
    let n = h.next in
    record { ahead = omega (arith, w.value, w.order); inside = omega (arith, w.inside) }

pub ranged_past : (s : List ℕ) (p : ℕ) (key : List ℕ) (form content lo hi : ℕ) {x q : ℕ} → ranged_line s p key form content lo hi ≡ got x q → Reach s (p + 1) q × (lo ≤ x) × (x ≤ hi)
unfolding ranged_line
ranged_past s p key form content lo hi {x} {q} h =
    let d = came (number_line s p key form) _ h in
    let t = through (between lo hi d.value) d.value d.place content (p + length key) d.then in
    let w = line_past (number_held s p key form d.first) in
    let b = between_is lo hi d.value t.0 in
    (record { ahead = omega (arith, t.2, w.ahead); inside = omega (arith, t.2, w.inside) }, omega (arith, t.1, b.0), omega (arith, t.1, b.1))
