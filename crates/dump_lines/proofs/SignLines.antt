-- The line of a sign: what it is in the dump's bytes, each answer of its reader, and what a line that was read says.
-- Assumes nothing.
use mathlib.Core.Path.{◌≡◌, refl, sym, ap, ◌∙◌}
use mathlib.Core.Bool.{Bool, true, false, false≢true, ◌&&◌, ◌||◌, not-eq-not}
use mathlib.Core.Logic.{◌⊎◌, inl, inr}
use mathlib.Core.List.{List}
use Prim.Native.Nat.{ℕ, ◌+◌, ◌-◌, ◌<◌, ◌≤◌}
use native.Mathlib.Omega.{arith}
use borrow.Author.Tests.{leb-true, ltb-true, eqb-true, le-leb, lt-ltb, eq-eqb, ne_eqb}
use lib.Dec.{leb, ltb, eqb}
use lib.ListN.{length, get_or}
use Rattle.read_bytes.specs.Read.Read.{got, refused}
use Rattle.read_bytes.specs.Bytes.{bytes, byte, peek, pick, one_of}
use Rattle.read_bytes.proofs.Places.{peek_in}
use Rattle.read_bytes.proofs.Answers.{through}
use Rattle.spec_dump.specs.DumpTexts.{Event, sign, id_byte}
use Rattle.spec_dump.specs.DumpLines.{sign_said, is_sign_line, sign_line}

-- The line at p has a byte and the signal's after it, from lo on and before hi.
pub record Named (d : List ℕ) (lo hi p : ℕ) : Type 0 where
  pub inside : p + 3 ≤ length d
  pub low : 33 + lo ≤ get_or d (p + 1) 0
  pub high : get_or d (p + 1) 0 < 33 + hi
  pub lf : get_or d (p + 2) 0 ≡ byte "\n"

-- That byte is a sign's.
pub record SignIn (d : List ℕ) (lo hi p : ℕ) : Type 0 where
  pub named : Named d lo hi p
  pub signed : one_of (get_or d p 0) (bytes "01xz") ≡ true

-- Five tests that hold together hold each.
five : (a b c f g : Bool) → a && b && c && f && g ≡ true → (a ≡ true) × (b ≡ true) × (c ≡ true) × (f ≡ true) × (g ≡ true)
five true true true true true e = (refl, refl, refl, refl, refl)
five true true true true false e = absurd (false≢true e)
five true true true false g e = absurd (false≢true e)
five true true false f g e = absurd (false≢true e)
five true false c f g e = absurd (false≢true e)
five false b c f g e = absurd (false≢true e)

module _ (d : List ℕ) (lo hi p : ℕ) where
  sign_is : is_sign_line d lo hi p ≡ true → SignIn d lo hi p
  unfolding is_sign_line
  sign_is e =
      let w = five (leb (p + 3) (length d)) (one_of (peek d p) (bytes "01xz")) (leb (id_byte lo) (peek d (p + 1))) (ltb (peek d (p + 1)) (id_byte hi)) (eqb (peek d (p + 2)) (byte "\n")) e in
      let l = leb-true (p + 3) (length d) w.0 in
      let a = peek_in d (p + 1) (omega arith) in
      record {
        named = record {
          inside = l;
          low = omega (arith, leb-true (id_byte lo) (peek d (p + 1)) w.2);
          high = omega (arith, ltb-true (peek d (p + 1)) (id_byte hi) w.3);
          lf = peek_in d (p + 2) (omega arith) ∙ eqb-true (peek d (p + 2)) (byte "\n") w.4;
        };
        signed = ap (λ b. one_of b (bytes "01xz")) (peek_in d p (omega arith)) ∙ w.1;
      }

  -- Any other line is refused.
  pub sign_not : (SignIn d lo hi p → ⊥) → refused 22 p ≡ sign_line d lo hi p
  unfolding sign_line
  sign_not n =
      let f : is_sign_line d lo hi p ≡ false = not-eq-not.0 (λ e. n (sign_is e)) in
      rw f

  -- So is one whose byte is no sign's.
  pub sign_other : (get_or d p 0 ≡ byte "0" → ⊥) → (get_or d p 0 ≡ byte "1" → ⊥) → (get_or d p 0 ≡ byte "x" → ⊥) → (get_or d p 0 ≡ byte "z" → ⊥) → refused 22 p ≡ sign_line d lo hi p
  sign_other o i x z =
      let b = get_or d p 0 in
      let f : one_of b (bytes "01xz") ≡ false = rw (ne_eqb b (byte "0") o, ne_eqb b (byte "1") i, ne_eqb b (byte "x") x, ne_eqb b (byte "z") z) in
      sign_not (λ h. false≢true (sym f ∙ h.signed))

  -- The line with the byte b, which says the sign r.
  pub sign_read : {b r : ℕ} → Named d lo hi p → get_or d p 0 ≡ b → one_of b (bytes "01xz") ≡ true → sign_said b ≡ r → got (sign (get_or d (p + 1) 0 - 33) r) (p + 3) ≡ sign_line d lo hi p
  unfolding is_sign_line sign_line
  sign_read h e o g =
      let l = h.inside in
      rw (
        le-leb (p + 3) (length d) l,
        sym (peek_in d p (omega arith)) ∙ e,
        o,
        g,
        ← peek_in d (p + 1) (omega arith),
        le-leb (id_byte lo) (get_or d (p + 1) 0) h.low,
        lt-ltb (get_or d (p + 1) 0) (id_byte hi) h.high,
        ← peek_in d (p + 2) (omega arith),
        eq-eqb (get_or d (p + 2) 0) (byte "\n") h.lf,
      )

-- A sign.
abbrev pub OneSign : ℕ → Type 0
OneSign b = (b ≡ byte "0") ⊎ ((b ≡ byte "1") ⊎ (b ≡ byte "x"))

-- What a byte of a line says is a sign.
said_sign : (b : ℕ) → one_of b (bytes "01xz") ≡ true → OneSign (sign_said b)
unfolding sign_said
said_sign b h = go (eqb b (byte "z")) (eqb b (byte "0")) (eqb b (byte "1")) (eqb b (byte "x")) refl refl refl h
  where
    go : (z o i x : Bool) → eqb b (byte "0") ≡ o → eqb b (byte "1") ≡ i → eqb b (byte "x") ≡ x → o || (i || (x || (z || false))) ≡ true → OneSign (pick z (λ _. byte "x") b)
    go true o i x a e f h = inr (inr refl)
    go false true i x a e f h = inl (eqb-true b (byte "0") a)
    go false false true x a e f h = inr (inl (eqb-true b (byte "1") e))
    go false false false true a e f h = inr (inr (eqb-true b (byte "x") f))
    go false false false false a e f h = absurd (false≢true h)

-- A sign was read, of a signal from lo on and before hi, in the three bytes from p to q.
pub record SignRead (d : List ℕ) (lo hi p : ℕ) (e : Event) (q : ℕ) : Type 0 where
  pub signal : ℕ
  pub said : ℕ
  pub is : sign signal said ≡ e
  pub low : lo ≤ signal
  pub high : signal < hi
  pub one : OneSign said
  pub next : p + 3 ≡ q
  pub inside : q ≤ length d

pub sign_got : (d : List ℕ) (lo hi p : ℕ) {e : Event} {q : ℕ} → sign_line d lo hi p ≡ got e q → SignRead d lo hi p e q
unfolding sign_line
sign_got d lo hi p g =
    let t = through (is_sign_line d lo hi p) (sign (peek d (p + 1) - 33) (sign_said (peek d p))) (p + 3) 22 p g in
    let h = sign_is d lo hi p t.0 in
    let n = h.named in
    let a = peek_in d (p + 1) (omega arith) in
    record {
      signal = peek d (p + 1) - 33;
      said = sign_said (peek d p);
      is = t.1;
      low = omega arith;
      high = omega arith;
      one = said_sign (peek d p) (rw (peek_in d p (omega arith)) at h.signed);
      next = t.2;
      inside = omega (arith, t.2);
    }
