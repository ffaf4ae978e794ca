-- The text of tokens that stand in the grammar has just these tokens, and the text that tokens stand in is theirs.
-- Assumes nothing. `s` is a text in which the tokens' text stands from p to q.
use mathlib.Core.Path.{◌≡◌, refl, sym, ap, ◌∙◌}
use mathlib.Core.Bool.{Bool, true, false, true≢false, ◌||◌}
use mathlib.Core.List.{List, [], ◌∷◌, ◌++◌, append_assoc, flatten}
use Prim.Native.Nat.{ℕ, suc, ◌+◌, ◌≤◌}
use native.Mathlib.Nat.{add-zero}
use native.Mathlib.Omega.{arith}
use borrow.Author.Tests.{eqb-true}
use lib.Dec.{eqb}
use lib.ListN.{length, length-append}
use Rattle.read_bytes.specs.Bytes.{byte, bytes, peek, digit, name_byte, one_of, starts}
use Rattle.spec_tilco.specs.Formula.{Op, And, Or, Implies, Iff, Written}
use Rattle.write_bytes.proofs.Standing.{starts_both, Standing, stands_then, stands_whole}
use Rattle.read_parts.specs.FormulaText.{sign_text}
use Rattle.spec_grammar.specs.Tokens.{Each, Spelling, Numeral, End, Token, TokenAt, Tokens}
use Rattle.spec_grammar.specs.Grammar.{Part, keep_word_lem, time_sign, Interval, Is}
use Rattle.spec_grammar.proofs.Standing.{starts_head, starts_tail, starts_none, next_is, none_is, one_at, tokens_then, word_each, word_first}
use Rattle.spec_grammar.proofs.Signs.{lone, lone_sign, op_sign, sign_token, sign_letter, sign_end, word_no_end, end_first, leading_digit}
use Rattle.spec_grammar.proofs.Offsets.{two_lone}
use Rattle.spec_grammar.proofs.Complete.{tokens_ahead}

-- ---- tokens one after the other

pub text_append : (us ws : List (List ℕ)) → flatten (us ++ ws) ≡ flatten us ++ flatten ws
unfolding flatten
text_append [] ws = refl
text_append (u ∷ us) ws = rw (text_append us ws, append_assoc)

-- The text of tokens stands from p to q.
pub record TextFrom (s : List ℕ) (p : ℕ) (ws : List (List ℕ)) (q : ℕ) : Type 0 where
  pub stands : starts s p (flatten ws) ≡ true
  pub end : q ≡ p + length (flatten ws)

module _ {s : List ℕ} {p q : ℕ} where
  -- That of one token,
  from_one : {w : List ℕ} → TextFrom s p (w ∷ []) q → (starts s p w ≡ true) × (p + length w ≡ q)
  unfolding flatten
  from_one {w} t = ((starts_both s p w [] t.stands).0, omega (arith, t.end, length-append w []))

  -- that of a token and those after it,
  from_next : {w : List ℕ} {ws : List (List ℕ)} → TextFrom s p (w ∷ ws) q → (starts s p w ≡ true) × TextFrom s (p + length w) ws q
  unfolding flatten
  from_next {w} {ws} t =
      let b = starts_both s p w (flatten ws) t.stands in
      (b.0, record { stands = b.1; end = omega (arith, t.end, length-append w (flatten ws)) })

  -- and that of some and those after them.
  from_parts : (us ws : List (List ℕ)) → TextFrom s p (us ++ ws) q → (m : ℕ) × TextFrom s p us m × TextFrom s m ws q
  from_parts us ws t =
      let b = starts_both s p (flatten us) (flatten ws) (rw (text_append us ws) at t.stands) in (
        p + length (flatten us),
        record { stands = b.0; end = refl },
        record { stands = b.1; end = omega (arith, t.end, ap length (text_append us ws), length-append (flatten us) (flatten ws)) },
      )

-- ---- where a token ends

-- Bytes that pass a test go no further than the first that does not.
no_further : (P : ℕ → Bool) (s : List ℕ) (p : ℕ) (w v : List ℕ) → P (peek s (p + length w)) ≡ false → Each P v → starts s p w ≡ true → starts s p v ≡ true → length v ≤ length w
no_further P s p w [] h k e f = omega arith
no_further P s p [] (y ∷ v) h k e f =
    let z = rw add-zero at h in
    absurd (true≢false (sym k.0 ∙ ap P (sym (starts_head s p y v f)) ∙ z))
no_further P s p (x ∷ w) (y ∷ v) h k e f =
    let i : p + suc (length w) ≡ p + 1 + length w = omega arith in
    let r = no_further P s (p + 1) w v (rw i at h) k.1 (starts_tail s p x w e) (starts_tail s p y v f) in
    omega arith

-- A byte of an end.
abbrev pub end_byte : ℕ → Bool
end_byte b = digit b || eqb b (byte "-")

digits_end : (w : List ℕ) → Each digit w → Each end_byte w
digits_end [] h = tt
digits_end (b ∷ w) h = (rw h.0, digits_end w h.1)

numeral_end : {w : List ℕ} {v : ℕ} → Numeral w v → Each end_byte w
numeral_end (Numeral.numeral {b} {w} h d l) = (rw (leading_digit b h), digits_end w d)

pub end_each : {w : List ℕ} {v : ℕ} → End w v → Each end_byte w
end_each End.nought = (refl, tt)
end_each (End.plus n) = numeral_end n
end_each (End.minus n) = (refl, numeral_end n)

module _ (s : List ℕ) (p : ℕ) {w : List ℕ} (e : starts s p w ≡ true) where
  -- A word is the token where no letter or digit follows it,
  word_at : Spelling w → name_byte (peek s (p + length w)) ≡ false → TokenAt s p w
  word_at k h = record { token = Token.word k; stands = e; longest = longest }
    where
      longest : (v : List ℕ) → Token v → starts s p v ≡ true → length v ≤ length w
      longest v (Token.word x) f = no_further name_byte s p w v h (word_each x) e f
      longest v (Token.end x) f = absurd (word_no_end s p k e (end_first s p x f))
      longest v (Token.sign m) f = absurd (sign_letter s p m f (word_first s p k e))

  -- and an end where no byte of an end does.
  end_at_lem : {x : ℕ} → End w x → end_byte (peek s (p + length w)) ≡ false → TokenAt s p w
  end_at_lem k h = record { token = Token.end k; stands = e; longest = longest }
    where
      longest : (v : List ℕ) → Token v → starts s p v ≡ true → length v ≤ length w
      longest v (Token.word x) f = absurd (word_no_end s p x f (end_first s p k e))
      longest v (Token.end x) f = no_further end_byte s p w v h (end_each x) e f
      longest v (Token.sign m) f = absurd (sign_end s p m f (end_first s p k e))

-- ---- signs

-- A sign is no byte of a name, nor of an end.
sign_first : (o : Op) (s : List ℕ) (p : ℕ) → starts s p (sign_text o) ≡ true → name_byte (peek s p) ≡ false
unfolding name_byte
sign_first And s p e = rw (starts_head s p (byte "&") [] e)
sign_first Or s p e = rw (starts_head s p (byte "|") [] e)
sign_first Implies s p e = rw (starts_head s p (byte "=") (bytes ">") e)
sign_first Iff s p e = rw (starts_head s p (byte "<") (bytes "=>") e)

module _ (s : List ℕ) (p b : ℕ) (e : starts s p (b ∷ []) ≡ true) where
  byte_at : (P : ℕ → Bool) → P b ≡ false → P (peek s p) ≡ false
  byte_at P h = rw (starts_head s p b [] e) h

  sign_at : one_of b lone ≡ true → TokenAt s p (b ∷ [])
  sign_at h = sign_token s p (lone_sign b h) e

-- What stands in the first of two brackets' places is a sign, and no byte of an end.
bracket_not : (c : ℕ) → one_of c (bytes "])") ≡ true → end_byte c ≡ false
bracket_not c h = go (eqb c (byte "]")) refl (eqb c (byte ")")) refl h
  where
    go : (x : Bool) → eqb c (byte "]") ≡ x → (y : Bool) → eqb c (byte ")") ≡ y → one_of c (bytes "])") ≡ true → end_byte c ≡ false
    go true e y f h = rw (eqb-true c (byte "]") e)
    go false e true f h = rw (eqb-true c (byte ")") f)
    go false e false f h = absurd (true≢false (sym h ∙ rw (e, f)))

-- since and until are words.
pub keep_word : (b : Bool) → Spelling (keep_word_lem b)
unfolding name_byte
keep_word true = Spelling.word {b = byte "s"} {w = bytes "ince"} refl (refl, (refl, (refl, (refl, tt))))
keep_word false = Spelling.word {b = byte "u"} {w = bytes "ntil"} refl (refl, (refl, (refl, (refl, tt))))

module _ {s : List ℕ} where
  -- ---- the tokens of a text

  interval_tokens_lem : {p q o v w c : ℕ} {ws : List (List ℕ)} → Interval ws o v w c → TextFrom s p ws q → Tokens s q p ws
  interval_tokens_lem {p} (Interval.interval {o} {c} {x = x} {y = y} ho hx hy hc) t =
      let a = from_next t in
      let b = from_next a.1 in
      let m = from_next b.1 in
      let n = from_next m.1 in
      let z = from_one n.1 in
      Tokens.next (sign_at s p o a.0 (two_lone o (byte "[") (byte "(") refl refl ho))
      (Tokens.next (end_at_lem s (p + 1) b.0 hx (byte_at s (p + 1 + length x) (byte ",") m.0 end_byte refl))
      (Tokens.next (sign_at s (p + 1 + length x) (byte ",") m.0 refl)
      (Tokens.next (end_at_lem s (p + 1 + length x + 1) n.0 hy (byte_at s (p + 1 + length x + 1 + length y) c z.0 end_byte (bracket_not c hc)))
      (one_at (sign_at s (p + 1 + length x + 1 + length y) c z.0 (two_lone c (byte "]") (byte ")") refl refl hc)) z.1))))

  time_first : (b : Bool) (p : ℕ) → starts s p (time_sign b) ≡ true → (name_byte (peek s p) ≡ false) × TokenAt s p (time_sign b)
  unfolding name_byte
  time_first true p e = (rw (starts_head s p (byte "@") [] e), sign_at s p (byte "@") e refl)
  time_first false p e = (rw (starts_head s p (byte "?") [] e), sign_at s p (byte "?") e refl)

  -- Where no letter or digit follows, tokens that stand in the grammar are the tokens of their text.
  pub tokens_of : {N : List ℕ → ℕ → Type 0} {I : ℕ → ℕ → ℕ → ℕ → ℕ → ℕ → Type 0} {k : Part} {d : ℕ} {ws : List (List ℕ)} {f : Written} → Is N I k d ws f
      → {p q : ℕ} → TextFrom s p ws q → name_byte (peek s q) ≡ false → Tokens s q p ws
  unfolding name_byte
  tokens_of (Is.name n h) {p} {q} t l = let a = from_one t in one_at (word_at s p a.0 n.word (rw a.1 l)) a.1
  tokens_of (Is.not h) {p} t l = let a = from_next t in Tokens.next (sign_at s p (byte "!") a.0 refl) (tokens_of h a.1 l)
  tokens_of (Is.parens {ws = ws} h) {p} t l =
      let a = from_next t in
      let b = from_parts ws (bytes ")" ∷ []) a.1 in
      let z = from_one b.2 in
      Tokens.next (sign_at s p (byte "(") a.0 refl)
      (tokens_then ws (tokens_of h b.1 (byte_at s b.0 (byte ")") z.0 name_byte refl)) (one_at (sign_at s b.0 (byte ")") z.0 refl) z.1))
  tokens_of (Is.keep {us = us} {ws} t' h k) {p} t l =
      let a = from_next t in
      let b = from_next a.1 in
      let c = from_parts us (bytes "," ∷ (ws ++ (bytes ")" ∷ []))) b.1 in
      let m = from_next c.2 in
      let n = from_parts ws (bytes ")" ∷ []) m.1 in
      let z = from_one n.2 in
      Tokens.next (word_at s p a.0 (keep_word t') (byte_at s (p + length (keep_word_lem t')) (byte "(") b.0 name_byte refl))
      (Tokens.next (sign_at s (p + length (keep_word_lem t')) (byte "(") b.0 refl)
      (tokens_then us (tokens_of h c.1 (byte_at s c.0 (byte ",") m.0 name_byte refl))
      (Tokens.next (sign_at s c.0 (byte ",") m.0 refl)
      (tokens_then ws (tokens_of k n.1 (byte_at s n.0 (byte ")") z.0 name_byte refl)) (one_at (sign_at s n.0 (byte ")") z.0 refl) z.1)))))
  tokens_of (Is.untimed h) t l = tokens_of h t l
  tokens_of (Is.time {us = us} {ws} b h i x) t l =
      let a = from_parts us (time_sign b ∷ ws) t in
      let m = from_next a.2 in
      let z = time_first b a.0 m.0 in
      tokens_then us (tokens_of h a.1 z.0) (Tokens.next z.1 (interval_tokens_lem i m.1))
  tokens_of (Is.one o h) t l = tokens_of h t l
  tokens_of (Is.join {us = us} {ws} o h k) t l =
      let a = from_parts us (sign_text o ∷ ws) t in
      let m = from_next a.2 in
      tokens_then us (tokens_of h a.1 (sign_first o s a.0 m.0)) (Tokens.next (sign_token s a.0 (op_sign o) m.0) (tokens_of k m.1 l))

  -- ---- the text of tokens

  -- The text that tokens stand in, up to its end, is theirs.
  pub text_of : {p q : ℕ} (ws : List (List ℕ)) → Tokens s q p ws → q ≤ length s → Standing s p (flatten ws) × (q ≡ p + length (flatten ws))
  unfolding flatten
  text_of {p} {q} [] t l = let e = none_is t in (record { bytes = starts_none s p; inside = omega arith }, omega arith)
  text_of {p} {q} (w ∷ ws) t l =
      let n = next_is t in
      let r = text_of {p = p + length w} ws n.1 l in
      let a = tokens_ahead ws n.1 in
      (stands_then w (flatten ws) (record { bytes = n.0.stands; inside = omega arith }) r.0, omega (arith, r.1, length-append w (flatten ws)))

-- The tokens of a whole text are those of which it is made.
pub whole_text : {s : List ℕ} {ws : List (List ℕ)} → Tokens s (length s) 0 ws → s ≡ flatten ws
whole_text {s} {ws} t = let r = text_of ws t (omega arith) in stands_whole s (flatten ws) r.0 (omega (arith, r.1))
