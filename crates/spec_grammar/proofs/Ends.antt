-- Ends of intervals are the tokens at their places, and each has one number.
-- Assumes nothing.
use mathlib.Core.Path.{◌≡◌, refl, sym, ap, ◌∙◌}
use mathlib.Core.Bool.{Bool, true, false, true≢false}
use mathlib.Core.List.{List, [], ◌∷◌}
use Prim.Native.Nat.{ℕ, zero, suc, ◌+◌, ◌-◌, ◌*◌, ◌≤◌}
use native.Mathlib.Omega.{arith}
use borrow.Author.Tests.{eqb-true, ne_eqb, eq-eqb}
use lib.Dec.{eqb}
use lib.ListN.{length}
use Rattle.std.specs.Prelude.{Option, Some, None}
use Rattle.read_bytes.specs.Bytes.{byte, peek, pick, digit, starts}
use Rattle.read_bytes.specs.Numbers.{decimal, digits}
use Rattle.read_bytes.proofs.Tests.{between_is}
use Rattle.read_interval.specs.Interval.{signed, leading, end_at, end_zero}
use Rattle.spec_grammar.specs.Tokens.{Each, Numeral, End, Token, TokenAt}
use Rattle.spec_grammar.proofs.Standing.{starts_head, starts_tail, starts_none, starts_one, starts_cons}
use Rattle.spec_grammar.proofs.Signs.{leading_digit, numeral_first, end_first, sign_end, word_no_end}

-- W is the longest text of at most k digits at p.
pub record DigitsAt (s : List ℕ) (k p : ℕ) (w : List ℕ) : Type 0 where
  pub each : Each digit w
  pub short : length w ≤ k
  pub stands : starts s p w ≡ true
  pub longest : (u : List ℕ) → Each digit u → length u ≤ k → starts s p u ≡ true → length u ≤ length w

-- What `digits` reads.
pub record Reads (s : List ℕ) (k p v : ℕ) : Type 0 where
  pub text : List ℕ
  pub at : DigitsAt s k p text
  pub read : digits s k p v ≡ (decimal v text, p + length text)

none_reads : (s : List ℕ) (k p v : ℕ) → ((u : List ℕ) → Each digit u → length u ≤ k → starts s p u ≡ true → length u ≤ 0) → digits s k p v ≡ (v, p) → Reads s k p v
unfolding decimal
none_reads s k p v h e =
    record {
      text = [];
      at = record { each = tt; short = omega arith; stands = starts_none s p; longest = h };
      read = let z : p + 0 ≡ p = omega arith in rw z e;
    }

pub digits_reads : (s : List ℕ) (k p v : ℕ) → Reads s k p v
unfolding digits decimal
digits_reads s zero p v = none_reads s zero p v (λ u h l e. l) refl
digits_reads s (suc k) p v = go (digit (peek s p)) refl (digits_reads s k (p + 1) (10 * v + (peek s p - byte "0")))
  where
    no_more : digit (peek s p) ≡ false → (u : List ℕ) → Each digit u → length u ≤ suc k → starts s p u ≡ true → length u ≤ 0
    no_more d [] h l e = omega arith
    no_more d (x ∷ u) h l e = absurd (true≢false (sym h.0 ∙ ap digit (sym (starts_head s p x u e)) ∙ d))

    more_than : {w : List ℕ} → DigitsAt s k (p + 1) w → (u : List ℕ) → Each digit u → length u ≤ suc k → starts s p u ≡ true → length u ≤ suc (length w)
    more_than a [] h l e = omega arith
    more_than a (x ∷ u) h l e = let r = a.longest u h.1 (omega arith) (starts_tail s p x u e) in omega arith

    go : (b : Bool) → digit (peek s p) ≡ b → Reads s k (p + 1) (10 * v + (peek s p - byte "0")) → Reads s (suc k) p v
    go true d r =
        record {
          text = peek s p ∷ r.text;
          at =
              record {
                each = (d, r.at.each);
                short = let l = r.at.short in omega arith;
                stands = starts_cons s p (peek s p) r.text refl r.at.stands;
                longest = more_than r.at;
              };
          read = let z : p + suc (length r.text) ≡ p + 1 + length r.text = omega arith in rw (d, z) r.read;
        }
    go false d r = none_reads s (suc k) p v (no_more d) (rw d)

-- ---- numerals

-- Where a digit other than 0 stands, the longest numeral there.
record NumeralAt (s : List ℕ) (p : ℕ) (w : List ℕ) (v : ℕ) : Type 0 where
  numeral : Numeral w v
  stands : starts s p w ≡ true
  read : digits s 4 p 0 ≡ (v, p + length w)
  longest : (u : List ℕ) (x : ℕ) → Numeral u x → starts s p u ≡ true → length u ≤ length w

numeral_at : (s : List ℕ) (p : ℕ) → leading (peek s p) ≡ true → (w : List ℕ) × (v : ℕ) × NumeralAt s p w v
unfolding digits decimal
numeral_at s p h =
    let d = leading_digit (peek s p) h in
    let r = digits_reads s 3 (p + 1) (10 * 0 + (peek s p - byte "0")) in
    let z : p + suc (length r.text) ≡ p + 1 + length r.text = omega arith in (
      peek s p ∷ r.text,
      decimal 0 (peek s p ∷ r.text),
      record {
        numeral = Numeral.numeral h r.at.each r.at.short;
        stands = starts_cons s p (peek s p) r.text refl r.at.stands;
        read = rw (d, z) r.read;
        longest = λ u x n e. longest r.at n e;
      },
    )
  where
    longest : {w u : List ℕ} {x : ℕ} → DigitsAt s 3 (p + 1) w → Numeral u x → starts s p u ≡ true → length u ≤ suc (length w)
    longest a (Numeral.numeral {b} {w = u} _ k l) e = let m = a.longest u k l (starts_tail s p b u e) in omega arith

-- ---- ends

-- The end at p is the token there, or none stands there.
pub data EndAt (s : List ℕ) (p : ℕ) : Option (ℕ × ℕ) → Type 0 where
  some : {w : List ℕ} {v : ℕ} → TokenAt s p w → End w v → EndAt s p (Some (v, p + length w))
  missing : ((w : List ℕ) (v : ℕ) → End w v → starts s p w ≡ true → ⊥) → EndAt s p None

zero_not : leading (byte "0") ≡ true → ⊥
zero_not e = true≢false (sym e)

minus_not : leading (byte "-") ≡ true → ⊥
minus_not e = true≢false (sym e)

module _ (s : List ℕ) (p : ℕ) where
  -- Where an end's first byte stands, the longest end is the token.
  end_token : {w : List ℕ} {v : ℕ} → End w v → starts s p w ≡ true → ((u : List ℕ) (x : ℕ) → End u x → starts s p u ≡ true → length u ≤ length w) → TokenAt s p w
  end_token {w} k e m = record { token = Token.end k; stands = e; longest = longest }
    where
      longest : (v : List ℕ) → Token v → starts s p v ≡ true → length v ≤ length w
      longest v (Token.word n) f = absurd (word_no_end s p n f (end_first s p k e))
      longest v (Token.end n) f = m v _ n f
      longest v (Token.sign n) f = absurd (sign_end s p n f (end_first s p k e))

  zero_longest : peek s p ≡ byte "0" → {u : List ℕ} {x : ℕ} → End u x → starts s p u ≡ true → length u ≤ 1
  zero_longest h End.nought e = omega arith
  zero_longest h (End.plus n) e = absurd (zero_not (rw h at (numeral_first s p n e)))
  zero_longest h (End.minus {w} n) e = let z = starts_head s p (byte "-") w e in let f : ⊥ = omega arith in absurd f

  plus_longest : leading (peek s p) ≡ true → {w : List ℕ} {v : ℕ} → NumeralAt s p w v → {u : List ℕ} {x : ℕ} → End u x → starts s p u ≡ true → length u ≤ length w
  plus_longest h a End.nought e = absurd (zero_not (rw (starts_head s p (byte "0") [] e) at h))
  plus_longest h a (End.plus n) e = a.longest _ _ n e
  plus_longest h a (End.minus {w} n) e = absurd (minus_not (rw (starts_head s p (byte "-") w e) at h))

  minus_longest : peek s p ≡ byte "-" → {w : List ℕ} {v : ℕ} → NumeralAt s (p + 1) w v → {u : List ℕ} {x : ℕ} → End u x → starts s p u ≡ true → length u ≤ suc (length w)
  minus_longest h a End.nought e = let z = starts_head s p (byte "0") [] e in let f : ⊥ = omega arith in absurd f
  minus_longest h a (End.plus n) e = absurd (minus_not (rw h at (numeral_first s p n e)))
  minus_longest h a (End.minus {w} n) e = let m = a.longest _ _ n (starts_tail s p (byte "-") w e) in omega arith

  no_end : eqb (peek s p) (byte "0") ≡ false → leading (peek s p) ≡ false → (peek s p ≡ byte "-" → leading (peek s (p + 1)) ≡ false) → (u : List ℕ) (x : ℕ) → End u x → starts s p u ≡ true → ⊥
  no_end z l m u x k e = go k e
    where
      go : {u : List ℕ} {x : ℕ} → End u x → starts s p u ≡ true → ⊥
      go End.nought f = true≢false (sym (eq-eqb (peek s p) (byte "0") (starts_head s p (byte "0") [] f)) ∙ z)
      go (End.plus n) f = true≢false (sym (numeral_first s p n f) ∙ l)
      go (End.minus {w} n) f = true≢false (sym (numeral_first s (p + 1) n (starts_tail s p (byte "-") w f)) ∙ m (starts_head s p (byte "-") w f))

  pub end_at_lem : EndAt s p (end_at s p)
  unfolding end_at signed
  end_at_lem = go (eqb (peek s p) (byte "0")) refl (leading (peek s p)) refl (eqb (peek s p) (byte "-")) refl (leading (peek s (p + 1))) refl
    where
      go : (z : Bool) → eqb (peek s p) (byte "0") ≡ z → (l : Bool) → leading (peek s p) ≡ l → (m : Bool) → eqb (peek s p) (byte "-") ≡ m → (n : Bool) → leading (peek s (p + 1)) ≡ n → EndAt s p (end_at s p)
      go true ez l el m em n en =
          let h = eqb-true (peek s p) (byte "0") ez in
          rw ez (some (end_token End.nought (starts_one s p (byte "0") h) (λ u x. zero_longest h)) End.nought)
      go false ez true el m em n en =
          let r = numeral_at s p el in
          let a = r.2 in
          rw (ez, el, a.read) (some (end_token (End.plus a.numeral) a.stands (λ u x. plus_longest el a)) (End.plus a.numeral))
      go false ez false el true em true en =
          let h = eqb-true (peek s p) (byte "-") em in
          let r = numeral_at s (p + 1) en in
          let a = r.2 in
          let q : p + 1 + length r.0 ≡ p + suc (length r.0) = omega arith in
          rw (ez, el, em, en, a.read, q) (some (end_token (End.minus a.numeral) (starts_cons s p (byte "-") r.0 h a.stands) (λ u x. minus_longest h a)) (End.minus a.numeral))
      go false ez false el true em false en = rw (ez, el, em, en) (missing (no_end ez el (λ h. en)))
      go false ez false el false em n en = rw (ez, el, em) (missing (no_end ez el (λ h. absurd (true≢false (sym (eq-eqb (peek s p) (byte "-") h) ∙ em)))))

-- ---- an end has one number

unfoldable pub value_of : List ℕ → ℕ
value_of [] = 0
value_of (b ∷ w) = pick (eqb b (byte "0")) (λ _. end_zero) (pick (eqb b (byte "-")) (λ _. end_zero - decimal 0 w) (end_zero + decimal 0 (b ∷ w)))

plus_value : {w : List ℕ} {v : ℕ} → Numeral w v → end_zero + v ≡ value_of w
unfolding value_of
plus_value (Numeral.numeral {b} h k l) =
    let i = between_is (byte "1") (byte "9") b h in
    rw (ne_eqb b (byte "0") (λ e. omega (arith, i.0)), ne_eqb b (byte "-") (λ e. omega (arith, i.0)))

minus_value : {w : List ℕ} {v : ℕ} → Numeral w v → end_zero - v ≡ value_of (byte "-" ∷ w)
unfolding value_of
minus_value (Numeral.numeral {b} h k l) = refl

pub end_value : {w : List ℕ} {v : ℕ} → End w v → v ≡ value_of w
unfolding value_of
end_value End.nought = refl
end_value (End.plus n) = plus_value n
end_value (End.minus n) = minus_value n

pub end_one : {w : List ℕ} {v x : ℕ} → End w v → End w x → v ≡ x
end_one a b = end_value a ∙ sym (end_value b)
