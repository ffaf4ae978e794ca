-- Signs and words are the tokens at their places: a token's first byte tells a word, an end and each sign apart.
-- Assumes nothing.
use mathlib.Core.Path.{◌≡◌, refl, sym, ap, subst, ◌∙◌}
use mathlib.Core.Bool.{Bool, true, false, true≢false, ◌||◌}
use mathlib.Core.Logic.{◌⊎◌, inl, inr, ⊎_elim}
use mathlib.Core.List.{List, [], ◌∷◌, Memᴰ}
use Prim.Native.Nat.{ℕ, ◌≤◌}
use native.Mathlib.Omega.{arith}
use borrow.Author.Tests.{eqb-true, ltb-true}
use lib.Dec.{eqb, ltb}
use lib.ListN.{length}
use Rattle.read_bytes.specs.Bytes.{byte, bytes, peek, pick, one_of, letter, digit, starts}
use Rattle.read_names.specs.Spellings.{spelling_at, same_text_lem, find_name}
use Rattle.read_bytes.proofs.Tests.{between_in, between_is}
use Rattle.read_names.proofs.Names.{find_in}
use Rattle.spec_tilco.specs.Formula.{Op, And, Or, Implies, Iff}
use Rattle.spec_tilco.specs.Lists.{All}
use Rattle.read_interval.specs.Interval.{leading}
use Rattle.read_parts.specs.FormulaText.{sign_text}
use Rattle.spec_grammar.specs.Tokens.{Spelling, Numeral, End, signs, Token, TokenAt}
use Rattle.spec_grammar.proofs.Standing.{starts_head, starts_one, word_stands, word_longest, word_each, letter_word, word_first}

-- The sign that starts with the byte b.
sign_from : ℕ → List ℕ
sign_from b =
    pick (eqb b (byte "=")) (λ _. bytes "=>") (pick (eqb b (byte "<")) (λ _. bytes "<=>") (b ∷ []))

-- A sign's first byte tells it from the others, and from words and ends.
data Opening : List ℕ → Type 0 where
  opening : {x : ℕ} {u : List ℕ} → sign_from x ≡ x ∷ u → letter x ≡ false → digit x ≡ false → eqb x (byte "-") ≡ false → Opening (x ∷ u)

all_opening : All Opening signs
unfolding sign_from
all_opening = (
  opening refl refl refl refl,
  (
    opening refl refl refl refl,
    (
      opening refl refl refl refl,
      (
        opening refl refl refl refl,
        (
          opening refl refl refl refl,
          (
            opening refl refl refl refl,
            (
              opening refl refl refl refl,
              (
                opening refl refl refl refl,
                (opening refl refl refl refl, (opening refl refl refl refl, (opening refl refl refl refl, (opening refl refl refl refl, tt)))),
              ),
            ),
          ),
        ),
      ),
    ),
  ),
)

pub among : {A : Type 0} (P : A → Type 0) (l : List A) {w : A} → All P l → Memᴰ w l → P w
among {A = A} P [] {w = w} h x'' = elim x'' [ ]
among P (x ∷ l) h (Memᴰ.head e) = subst P (sym e) h.0
among P (x ∷ l) h (Memᴰ.tail m) = among P l h.1 m

-- Each text of a list that is among the signs, by its test.
is_sign : (w : List ℕ) → ltb (find_name w signs) (length signs) ≡ true → Memᴰ w signs
is_sign w e = (find_in w signs).0 (ltb-true (find_name w signs) (length signs) e)

-- "The other signs one by one."
abbrev pub lone : List ℕ
lone = bytes "!&|@?()[],"

all_lone : All (λ x. Memᴰ (x ∷ []) signs) lone
unfolding find_name same_text_lem
all_lone = (
  is_sign (bytes "!") refl,
  (
    is_sign (bytes "&") refl,
    (
      is_sign (bytes "|") refl,
      (
        is_sign (bytes "@") refl,
        (
          is_sign (bytes "?") refl,
          (is_sign (bytes "(") refl, (is_sign (bytes ")") refl, (is_sign (bytes "[") refl, (is_sign (bytes "]") refl, (is_sign (bytes ",") refl, tt))))),
        ),
      ),
    ),
  ),
)

pub lone_sign : (b : ℕ) → one_of b lone ≡ true → Memᴰ (b ∷ []) signs
lone_sign b = pass lone all_lone
  where
    pass : (l : List ℕ) → All (λ x. Memᴰ (x ∷ []) signs) l → one_of b l ≡ true → Memᴰ (b ∷ []) signs
    pass [] h e = absurd (true≢false (sym e))
    pass (x ∷ l) h e = go (eqb b x) refl (pass l h.1) e
      where
        go : (t : Bool) → eqb b x ≡ t → (one_of b l ≡ true → Memᴰ (b ∷ []) signs) → eqb b x || one_of b l ≡ true → Memᴰ (b ∷ []) signs
        go true i r f = rw (eqb-true b x i) h.0
        go false i r f = r (rw i at f)

pub op_sign : (o : Op) → Memᴰ (sign_text o) signs
unfolding find_name same_text_lem
op_sign And = is_sign (bytes "&") refl
op_sign Or = is_sign (bytes "|") refl
op_sign Implies = is_sign (bytes "=>") refl
op_sign Iff = is_sign (bytes "<=>") refl

sign_opening : {w : List ℕ} → Memᴰ w signs → Opening w
sign_opening = among Opening signs all_opening

-- A token has a first byte.
pub token_some : {w : List ℕ} → Token w → (b : ℕ) × (u : List ℕ) × (w ≡ b ∷ u)
token_some (Token.word (Spelling.word {b} {w} h k)) = (b, w, refl)
token_some (Token.end End.nought) = (byte "0", [], refl)
token_some (Token.end (End.plus (Numeral.numeral {b} {w} h k l))) = (b, w, refl)
token_some (Token.end (End.minus {w} n)) = (byte "-", w, refl)
token_some (Token.sign m) = go (sign_opening m)
  where
    go : {w : List ℕ} → Opening w → (b : ℕ) × (u : List ℕ) × (w ≡ b ∷ u)
    go (opening {x} {u} a l d k) = (x, u, refl)

-- The first byte of an end.
pub leading_digit : (b : ℕ) → leading b ≡ true → digit b ≡ true
leading_digit b e = let w = between_is (byte "1") (byte "9") b e in between_in (byte "0") (byte "9") b (omega (arith, w.0)) w.1

pub numeral_first : {w : List ℕ} {v : ℕ} (s : List ℕ) (p : ℕ) → Numeral w v → starts s p w ≡ true → leading (peek s p) ≡ true
numeral_first s p (Numeral.numeral {b} {w} h d l) e = rw (starts_head s p b w e) h

pub end_first : {w : List ℕ} {v : ℕ} (s : List ℕ) (p : ℕ) → End w v → starts s p w ≡ true → (digit (peek s p) ≡ true) ⊎ (peek s p ≡ byte "-")
end_first s p End.nought e = inl (rw (starts_head s p (byte "0") [] e))
end_first s p (End.plus n) e = inl (leading_digit (peek s p) (numeral_first s p n e))
end_first s p (End.minus {w} n) e = inr (starts_head s p (byte "-") w e)

-- ---- signs

module _ (s : List ℕ) (p : ℕ) where
  same_sign : {v w : List ℕ} → Opening v → starts s p v ≡ true → Opening w → starts s p w ≡ true → v ≡ w
  same_sign (opening {x} {u} a _ _ _) e (opening {x = y} {u = t} b _ _ _) f =
      let i = starts_head s p x u e in
      let j = starts_head s p y t f in
      sym a ∙ ap sign_from (sym i ∙ j) ∙ b

  sign_longest : {w : List ℕ} → Opening w → starts s p w ≡ true → (v : List ℕ) → Token v → starts s p v ≡ true → length v ≤ length w
  sign_longest (opening {x} {u} a l d m) e v (Token.word k) f =
      absurd (true≢false (sym (word_first s p k f) ∙ ap letter (starts_head s p x u e) ∙ l))
  sign_longest (opening {x} {u} a l d m) e v (Token.end k) f =
      ⊎_elim (λ h. absurd (true≢false (sym h ∙ ap digit (starts_head s p x u e) ∙ d)))
      (λ h. absurd (true≢false (ap (λ b. eqb b (byte "-")) (sym h ∙ starts_head s p x u e) ∙ m)))
      (end_first s p k f)
  sign_longest (opening {x} {u} a l d m) e v (Token.sign k) f =
      omega (arith, ap length (same_sign (sign_opening k) f (opening a l d m) e))

  -- A sign that stands at a place is the token there.
  pub sign_token : {w : List ℕ} → Memᴰ w signs → starts s p w ≡ true → TokenAt s p w
  sign_token m e = record { token = Token.sign m; stands = e; longest = sign_longest (sign_opening m) e }

  pub lone_token : {b : ℕ} → one_of b lone ≡ true → peek s p ≡ b → TokenAt s p (b ∷ [])
  lone_token {b} m e = sign_token (lone_sign b m) (starts_one s p b e)

  -- No end and no sign starts with a letter, and no word and no sign as an end does.
  pub sign_letter : {w : List ℕ} → Memᴰ w signs → starts s p w ≡ true → letter (peek s p) ≡ true → ⊥
  sign_letter m e h = go (sign_opening m) e
    where
      go : {w : List ℕ} → Opening w → starts s p w ≡ true → ⊥
      go (opening {x} {u} a l d k) f = true≢false (sym h ∙ ap letter (starts_head s p x u f) ∙ l)

  pub sign_end : {w : List ℕ} → Memᴰ w signs → starts s p w ≡ true → (digit (peek s p) ≡ true) ⊎ (peek s p ≡ byte "-") → ⊥
  sign_end m e h = go (sign_opening m) e
    where
      go : {w : List ℕ} → Opening w → starts s p w ≡ true → ⊥
      go (opening {x} {u} a l d k) f =
          ⊎_elim (λ g. true≢false (sym g ∙ ap digit (starts_head s p x u f) ∙ d))
          (λ g. true≢false (ap (λ b. eqb b (byte "-")) (sym g ∙ starts_head s p x u f) ∙ k)) h

pub letter_no_end : (b : ℕ) → letter b ≡ true → (digit b ≡ true) ⊎ (b ≡ byte "-") → ⊥
letter_no_end b h k =
    let w = between_is (byte "a") (byte "z") b h in
    ⊎_elim (λ d. let v = between_is (byte "0") (byte "9") b d in omega (arith, w.0, v.1)) (λ e. omega (arith, w.0)) k

-- ---- words

module _ (s : List ℕ) (p : ℕ) where
  pub word_no_end : {w : List ℕ} → Spelling w → starts s p w ≡ true → (digit (peek s p) ≡ true) ⊎ (peek s p ≡ byte "-") → ⊥
  word_no_end k e h = letter_no_end (peek s p) (word_first s p k e) h

  -- Where a letter stands, the token is the word.
  pub word_token : letter (peek s p) ≡ true → TokenAt s p (spelling_at s p)
  word_token h = record { token = Token.word (letter_word s p h); stands = word_stands s p; longest = longest }
    where
      longest : (v : List ℕ) → Token v → starts s p v ≡ true → length v ≤ length (spelling_at s p)
      longest v (Token.word k) e = word_longest s p v (word_each k) e
      longest v (Token.end k) e = absurd (letter_no_end (peek s p) h (end_first s p k e))
      longest v (Token.sign m) e = absurd (sign_letter s p m e h)
