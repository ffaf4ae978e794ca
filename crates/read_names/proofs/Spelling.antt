-- Spellings: a spelling byte by byte, where it ends, and that it is the spelling that a list of letters and digits spells.
-- Assumes nothing.
use mathlib.Core.Path.{◌≡◌, refl, sym, ap, ◌∙◌}
use mathlib.Core.Bool.{Bool, true, false, true≢false, not, ◌&&◌, and-eq-true_iff, or-true}
use mathlib.Core.List.{List, [], ◌∷◌}
use Prim.Native.Nat.{ℕ, suc, ◌+◌, ◌<◌}
use native.Mathlib.Omega.{arith}
use native.Mathlib.Decide.{dec_lt}
use borrow.Author.Tests.{eqb-true}
use lib.Dec.{eqb}
use lib.ListN.{length}
use Rattle.read_bytes.specs.Bytes.{peek, letter, digit, name_byte, starts, run_end, every}
use Rattle.read_names.specs.Spellings.{spelling_at, spelling_end, same_text_lem, is_spelled}
use Rattle.read_bytes.proofs.Places.{Reach, peek_in, inside_test}
use Rattle.read_bytes.proofs.Runs.{run_more, run_none, run_past, end_reach}

-- A byte of a name is a letter or a digit.
module _ (b : ℕ) where
  pub name_letter : letter b ≡ true → name_byte b ≡ true
  unfolding name_byte
  name_letter e = rw e

  pub name_digit : digit b ≡ true → name_byte b ≡ true
  unfolding name_byte
  name_digit e = rw e (or-true (letter b))

  pub name_neither : letter b ≡ false → digit b ≡ false → name_byte b ≡ false
  unfolding name_byte
  name_neither e f = rw (e, f)

module _ (s : List ℕ) (p : ℕ) where
  -- A letter or a digit stands inside the text.
  pub name_inside : name_byte (peek s p) ≡ true → p < length s
  unfolding name_byte
  name_inside e = inside_test s p name_byte refl e

  pub word_more : name_byte (peek s p) ≡ true → spelling_at s p ≡ peek s p ∷ spelling_at s (p + 1)
  word_more e =
      let h = name_inside e in
      let k = peek_in s p h in
      rw (← k) (run_more name_byte s p h (rw k e))

  pub word_none : name_byte (peek s p) ≡ false → spelling_at s p ≡ []
  word_none e = go (dec_lt p (length s))
    where
      go : Dec (p < length s) → spelling_at s p ≡ []
      go (yes h) = run_none name_byte s p h (rw (peek_in s p h) e)
      go (no h) = run_past name_byte s p (omega arith)

-- A spelling with a letter or a digit ends after it.
pub word_ahead : (s : List ℕ) (p : ℕ) → name_byte (peek s p) ≡ true → Reach s (p + 1) (spelling_end s p)
unfolding run_end
word_ahead s p e =
    let i = name_inside s p e in
    let m = ap length (word_more s p e) in
    let r = end_reach name_byte s p (omega arith) in
    record { ahead = omega (arith, m); inside = r.inside }

-- The spelling at p is w exactly if the two are the same text.
pub is_word : (s : List ℕ) (p : ℕ) (w : List ℕ) → every name_byte w ≡ true → is_spelled s p w ≡ same_text_lem w (spelling_at s p)
unfolding is_spelled starts same_text_lem every
is_word s p [] h = go (name_byte (peek s p)) refl
  where
    here : p + 0 ≡ p
    here = omega arith

    go : (b : Bool) → name_byte (peek s p) ≡ b → not (name_byte (peek s (p + 0))) ≡ same_text_lem [] (spelling_at s p)
    go true e = rw (here, word_more s p e, e)
    go false e = rw (here, word_none s p e, e)
is_word s p (x ∷ w) h = go (eqb x (peek s p)) refl (name_byte (peek s p)) refl (is_word s (p + 1) w k.1)
  where
    k : (name_byte x ≡ true) × (every name_byte w ≡ true)
    k = (and-eq-true_iff (name_byte x) (every name_byte w)).0 h

    next : p + suc (length w) ≡ p + 1 + length w
    next = omega arith

    go : (b : Bool) → eqb x (peek s p) ≡ b → (c : Bool) → name_byte (peek s p) ≡ c → is_spelled s (p + 1) w ≡ same_text_lem w (spelling_at s (p + 1)) → (eqb x (peek s p) && starts s (p + 1) w) && not (name_byte (peek s (p + suc (length w)))) ≡ same_text_lem (x ∷ w) (spelling_at s p)
    go true e true f i = rw (word_more s p f, next, e, i)
    go true e false f i = absurd (true≢false (sym k.0 ∙ ap name_byte (eqb-true x (peek s p) e) ∙ f))
    go false e true f i = rw (word_more s p f, e)
    go false e false f i = rw (word_none s p f, e)

module _ (s : List ℕ) (p : ℕ) (w : List ℕ) where
  pub is_not : starts s p w ≡ false → false ≡ is_spelled s p w
  unfolding is_spelled
  is_not a = rw a

  pub is_by : starts s p w ≡ true → not (name_byte (peek s (p + length w))) ≡ is_spelled s p w
  unfolding is_spelled
  is_by a = rw a
