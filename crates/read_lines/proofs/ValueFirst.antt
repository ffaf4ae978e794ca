-- Lines whose value is read before their LF is looked for: the line ends where the value does exactly if an LF stands there.
-- Assumes nothing.
use mathlib.Core.Path.{◌≡◌, refl, sym, ap, ◌∙◌}
use mathlib.Core.Bool.{Bool, true, false, true≢false, ◌&&◌, and-eq-true_iff}
use mathlib.Core.List.{List}
use Prim.Native.Nat.{ℕ, zero, suc, ◌+◌, ◌-◌, ◌*◌, ◌<◌, ◌≤◌}
use native.Mathlib.Omega.{arith}
use borrow.Author.Tests.{eqb-true, eq-eqb, ltb-true, lt-ltb, le-ltb, leb-true, le-leb, lt-leb, leb-false}
use lib.Dec.{leb, ltb, eqb}
use lib.ListN.{length, get_or}
use Rattle.std.specs.Prelude.{Option, Some, None}
use Rattle.read_bytes.specs.Read.Read.{got, refused}
use Rattle.read_bytes.specs.Bytes.{byte, peek, pick, between, digit, name_byte, starts, run_end}
use Rattle.read_names.specs.Spellings.{name_at}
use Rattle.read_bytes.specs.Numbers.{digits, number}
use Rattle.read_lines.specs.Lines.{in_line, line_end, keyed_at, lf_at, NoName, line, whole_number, whole_name, number_line, ranged_line, ended_number, number_value, ranged_value, name_line}
use Rattle.read_bytes.proofs.Values.{same_first, same_second, same_some, none_not}
use Rattle.read_bytes.proofs.Places.{peek_in, inside_test}
use Rattle.read_bytes.proofs.Runs.{end_more, end_here, end_within}
use Rattle.read_names.proofs.Names.{named}
use Rattle.read_lines.proofs.KeyedLines.{Placed, placed, lf_ends, lf_not, whole_is, whole_not, line_is, line_open, line_not, number_line_is, name_line_is}

-- What passes a test that LF does not pass is no LF.
in_line_lem : (P : ℕ → Bool) → P (byte "\n") ≡ false → (b : ℕ) → P b ≡ true → in_line b ≡ true
in_line_lem P z b e = lf_not b (λ i. true≢false (sym e ∙ ap P i ∙ z))

-- THE LINE OF A VALUE ENDS WHERE THAT OF WHAT FOLLOWS IT DOES
module _ (s : List ℕ) where
  digit_on : (p : ℕ) → digit (peek s p) ≡ true → line_end s p ≡ line_end s (p + 1)
  digit_on p d =
      let l = inside_test s p digit refl d in
      end_more in_line s p l (rw (peek_in s p l) (in_line_lem digit refl (peek s p) d))

  digits_on_line : (k p v : ℕ) {x q : ℕ} → digits s k p v ≡ (x, q) → line_end s p ≡ line_end s q
  unfolding digits
  digits_on_line zero p v e = ap (line_end s) (same_second e)
  digits_on_line (suc k) p v {x} {q} e = go (digit (peek s p)) refl (digits_on_line k (p + 1) (10 * v + (peek s p - byte "0")))
    where
      go : (b : Bool) → digit (peek s p) ≡ b → (digits s k (p + 1) (10 * v + (peek s p - byte "0")) ≡ (x, q) → line_end s (p + 1) ≡ line_end s q) → line_end s p ≡ line_end s q
      go true d r = digit_on p d ∙ r (rw d at e)
      go false d r = ap (line_end s) (same_second (rw d at e))

  number_on_line : (p : ℕ) {x q : ℕ} → number s p ≡ Some (x, q) → line_end s p ≡ line_end s q
  unfolding number
  number_on_line p {x} {q} e = go (eqb (peek s p) (byte "0")) refl (between (byte "1") (byte "9") (peek s p)) refl
    where
      go : (b : Bool) → eqb (peek s p) (byte "0") ≡ b → (c : Bool) → between (byte "1") (byte "9") (peek s p) ≡ c → line_end s p ≡ line_end s q
      go true f c g =
          digit_on p (rw (eqb-true (peek s p) (byte "0") f)) ∙ ap (line_end s) (same_second (same_some (rw f at e)))
      go false f true g = digits_on_line 5 p 0 (same_some (rw (f, g) at e))
      go false f false g = absurd (none_not (rw (f, g) at e))

  name_on_line : (p : ℕ) {q : ℕ} {n : Option ℕ} → name_at s p ≡ Some (q, n) → line_end s p ≡ line_end s q
  unfolding name_byte
  name_on_line p e = end_within name_byte in_line (in_line_lem name_byte refl) s p ∙ ap (line_end s) (sym (named s p e).ends)

  -- AN LF OF THE TEXT
  pub lf_read : (q : ℕ) → q < length s → eqb (get_or s q 0) (byte "\n") ≡ lf_at s q
  unfolding lf_at
  lf_read q l = rw (lt-ltb q (length s) l, peek_in s q l)

  pub lf_past : (q : ℕ) → length s ≤ q → false ≡ lf_at s q
  unfolding lf_at
  lf_past q l = rw (le-ltb q (length s) l)

  lf_yes : (q : ℕ) → q < length s → peek s q ≡ byte "\n" → lf_at s q ≡ true
  unfolding lf_at
  lf_yes q l e = rw (lt-ltb q (length s) l, eq-eqb (peek s q) (byte "\n") e)

  pub lf_inside : (q : ℕ) → lf_at s q ≡ true → q < length s
  unfolding lf_at
  lf_inside q e = ltb-true q (length s) ((and-eq-true_iff (ltb q (length s)) (eqb (peek s q) (byte "\n"))).0 e).0

  lf_end : (q : ℕ) → lf_at s q ≡ true → line_end s q ≡ q
  unfolding lf_at
  lf_end q e =
      let l = lf_inside q e in
      let w = (and-eq-true_iff (ltb q (length s)) (eqb (peek s q) (byte "\n"))).0 e in
      end_here in_line s q l (rw (peek_in s q l) (lf_ends (peek s q) (eqb-true (peek s q) (byte "\n") w.1)))

module _ (s : List ℕ) (p : ℕ) (key : List ℕ) where
  pub keyed_is : keyed_at s p key ≡ true → (p + length key ≤ length s) × (starts s p key ≡ true)
  unfolding keyed_at
  keyed_is e =
      let w = (and-eq-true_iff (leb (p + length key) (length s)) (starts s p key)).0 e in
      (leb-true (p + length key) (length s) w.0, w.1)

  pub keyed_by : p + length key ≤ length s → starts s p key ≡ keyed_at s p key
  unfolding keyed_at
  keyed_by l = rw (le-leb (p + length key) (length s) l)

  pub keyed_past : length s < p + length key → false ≡ keyed_at s p key
  unfolding keyed_at
  keyed_past l = rw (lt-leb (p + length key) (length s) l)

  module _ (form : ℕ) where
    -- A line with no key, or with its value past the end of the text, has no form.
    pub keyed_not : keyed_at s p key ≡ false → line s p key form ≡ refused form p
    unfolding keyed_at run_end
    keyed_not e = go (starts s p key) refl (leb (p + length key) (length s)) refl
      where
        go : (b : Bool) → starts s p key ≡ b → (c : Bool) → leb (p + length key) (length s) ≡ c → line s p key form ≡ refused form p
        go false f c g = sym (line_not s p key form f)
        go true f true g = absurd (true≢false (sym (rw (f, g)) ∙ e))
        go true f false g =
            let l = leb-false (p + length key) (length s) g in
            sym (line_open s p key form (line_end s (p + length key)) f refl (omega arith))

    -- A line whose value ends at an LF of the text.
    module _ (k : keyed_at s p key ≡ true) {q : ℕ} (l : lf_at s q ≡ true) where
      value_line : line_end s (p + length key) ≡ line_end s q → line s p key form ≡ got (p + length key) q
      value_line e = sym (line_is s p key form q (keyed_is k).1 (sym (e ∙ lf_end s q l)) (lf_inside s q l))

      pub number_first : {x : ℕ} → number s (p + length key) ≡ Some (x, q) → got x (q + 1) ≡ number_line s p key form
      number_first {x} e = whole_is x q q form p refl ∙ number_line_is s p key form (value_line (number_on_line s (p + length key) e)) e

      pub name_first : (content : ℕ) {n : Option ℕ} → name_at s (p + length key) ≡ Some (q, n) → got (p + length key) (q + 1) ≡ name_line s p key form content
      name_first content e = whole_is (p + length key) q q content (p + length key) refl ∙ name_line_is s p key form (value_line (name_on_line s (p + length key) e)) content e

    -- The line's LF is one of the text.
    lf_placed : {v e q : ℕ} → Placed s p key v e → lf_at s q ≡ false → q ≡ e → ⊥
    lf_placed {v} {e} {q} h f i = true≢false (sym (lf_yes s e h.inside h.lf) ∙ sym (ap (lf_at s) i) ∙ f)

    -- A line whose value does not end so.
    number_refused : (n : Option (ℕ × ℕ)) → number s (p + length key) ≡ n → ((e : ℕ) → Placed s p key (p + length key) e → refused form p ≡ whole_number p form e n) → refused form p ≡ number_line s p key form
    unfolding line number_line
    number_refused n f missed = go (starts s p key && ltb (line_end s (p + length key)) (length s)) refl
      where
        go : (b : Bool) → (starts s p key && ltb (line_end s (p + length key)) (length s)) ≡ b → refused form p ≡ number_line s p key form
        go false g = rw g
        go true g =
            let a : line s p key form ≡ got (p + length key) (line_end s (p + length key)) = rw g in
            missed (line_end s (p + length key)) (placed s p key form a) ∙ number_line_is s p key form a f

    pub number_missing : number s (p + length key) ≡ None → refused form p ≡ number_line s p key form
    number_missing f = number_refused None f (λ e h. refl)

    pub number_open : {x q : ℕ} → number s (p + length key) ≡ Some (x, q) → lf_at s q ≡ false → refused form p ≡ number_line s p key form
    number_open {x} {q} f l = number_refused (Some (x, q)) f (λ e h. whole_not x q e form p (lf_placed h l))

    -- What follows the key of a line is all that is left to read of it,
    number_keyed : keyed_at s p key ≡ true → number_value s p (p + length key) form ≡ number_line s p key form
    unfolding number_value
    number_keyed k = go (number s (p + length key)) refl
      where
        go : (n : Option (ℕ × ℕ)) → number s (p + length key) ≡ n → ended_number s p form n ≡ number_line s p key form
        go None f = number_missing f
        go (Some (x, q)) f = on (lf_at s q) refl
          where
            on : (b : Bool) → lf_at s q ≡ b → pick b (λ _. got x (q + 1)) (refused form p) ≡ number_line s p key form
            on true l = number_first k l f
            on false l = number_open f l

    pub ranged_keyed : (content lo hi : ℕ) → keyed_at s p key ≡ true → ranged_line s p key form content lo hi ≡ ranged_value s p (p + length key) form content lo hi
    unfolding ranged_line ranged_value
    ranged_keyed content lo hi k = rw (number_keyed k)

    -- and a line whose key does not stand has no form.
    pub ranged_unkeyed : (content lo hi : ℕ) → keyed_at s p key ≡ false → ranged_line s p key form content lo hi ≡ refused form p
    unfolding ranged_line number_line
    ranged_unkeyed content lo hi k = rw (keyed_not k)

    pub name_not_whole : (content : ℕ) {v e : ℕ} → line s p key form ≡ got v e → NoName s (p + length key) → refused content v ≡ name_line s p key form content
    name_not_whole content {v} {e} a never =
        let h = placed s p key form a in
        missed h (name_at s v) refl ∙ name_line_is s p key form a content refl
      where
        missed : Placed s p key v e → (w : Option (ℕ × Option ℕ)) → name_at s v ≡ w → refused content v ≡ whole_name v content e w
        missed h (Some (q, n)) f = whole_not v q e content v (lf_placed h (never q n (sym (ap (name_at s) h.value) ∙ f)))
        missed h None f = refl

-- The number that follows a key: none, one with an LF after it, or one without.
module _ (s : List ℕ) (p v form : ℕ) where
  pub value_missing : number s v ≡ None → refused form p ≡ number_value s p v form
  unfolding number_value
  value_missing f = rw f

  module _ {x q : ℕ} (f : number s v ≡ Some (x, q)) where
    pub value_ended : lf_at s q ≡ true → got x (q + 1) ≡ number_value s p v form
    unfolding number_value
    value_ended l = rw (f, l)

    pub value_open : lf_at s q ≡ false → refused form p ≡ number_value s p v form
    unfolding number_value
    value_open l = rw (f, l)

-- Where no name was read, or one that no LF follows.
module _ (s : List ℕ) (v : ℕ) where
  pub other_no_name : name_at s v ≡ None → NoName s v
  other_no_name f q n e = absurd (none_not (sym f ∙ e))

  pub open_no_name : {q : ℕ} {n : Option ℕ} → name_at s v ≡ Some (q, n) → lf_at s q ≡ false → NoName s v
  open_no_name f l r m e = let i = same_first (same_some (sym f ∙ e)) in rw i at l
