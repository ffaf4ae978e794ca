-- Places of a text: what stands at one, and the bytes of a key from one on.
-- Assumes nothing.
use mathlib.Core.Path.{◌≡◌, refl, sym, ap, ◌∙◌}
use mathlib.Core.Bool.{Bool, true, false, true≢false, ◌&&◌}
use mathlib.Core.List.{List, [], ◌∷◌}
use Prim.Native.Nat.{ℕ, zero, suc, ◌+◌, ◌<◌, ◌≤◌}
use native.Mathlib.Numerals.{add-one}
use native.Mathlib.Omega.{arith}
use native.Mathlib.Decide.{dec_lt}
use borrow.Author.Tests.{eq-eqb, ne_eqb}
use lib.Dec.{eqb}
use lib.ListN.{length, get_or, drop, drop_of_length-le, get_or-eq_default}
use lib.Seq.{drop-cons}
use Rattle.read_bytes.specs.Bytes.{byte, peek, starts}

-- The place q lies from p on, and in the text or at its end.
pub record Reach (s : List ℕ) (p q : ℕ) : Type 0 where
  pub ahead : p ≤ q
  pub inside : q ≤ length s

-- Inside a list the default does not matter.
pub get_d_any : {A : Type 0} (l : List A) (i : ℕ) (d e : A) → i < length l → get_or l i d ≡ get_or l i e
get_d_any [] i d e h = let z : ⊥ = omega arith in absurd z
get_d_any (x ∷ l) zero d e h = refl
get_d_any (x ∷ l) (suc i) d e h = let k : i < length l = omega arith in get_d_any l i d e k

pub drop_in : {A : Type 0} (l : List A) (i : ℕ) (d : A) → i < length l → drop i l ≡ get_or l i d ∷ drop (i + 1) l
drop_in l i d h = rw (add-one, drop-cons l i d)

module _ (s : List ℕ) (p : ℕ) where
  pub peek_in : p < length s → get_or s p 0 ≡ peek s p
  unfolding peek
  peek_in h = get_d_any s p 0 (byte "\n") h

  pub peek_out : length s ≤ p → peek s p ≡ byte "\n"
  unfolding peek
  peek_out h = get_or-eq_default s (byte "\n") h

  -- What is no LF stands inside the text.
  pub inside : (peek s p ≡ byte "\n" → ⊥) → p < length s
  inside n = go (dec_lt p (length s))
    where
      go : Dec (p < length s) → p < length s
      go (yes h) = h
      go (no h) = let o : length s ≤ p = omega arith in absurd (n (peek_out o))

  -- And so does what passes a test that LF does not pass.
  pub inside_test : (P : ℕ → Bool) → P (byte "\n") ≡ false → P (peek s p) ≡ true → p < length s
  inside_test P z e = inside (λ i. true≢false (sym e ∙ ap P i ∙ z))

-- The bytes of w from i on.
module _ (s w : List ℕ) (p i : ℕ) where
  pub starts_done : length w ≤ i → starts s (p + i) (drop i w) ≡ true
  unfolding starts
  starts_done h = rw (drop_of_length-le w h)

  pub starts_step : i < length w → starts s (p + i) (drop i w) ≡ eqb (get_or w i 0) (peek s (p + i)) && starts s (p + i + 1) (drop (i + 1) w)
  unfolding starts
  starts_step h = ap (starts s (p + i)) (drop_in w i 0 h)

  pub starts_off : i < length w → (get_or w i 0 ≡ peek s (p + i) → ⊥) → starts s (p + i) (drop i w) ≡ false
  starts_off h n = starts_step h ∙ rw (ne_eqb (get_or w i 0) (peek s (p + i)) n)

  pub starts_on : i < length w → get_or w i 0 ≡ peek s (p + i) → starts s (p + i) (drop i w) ≡ starts s (p + (i + 1)) (drop (i + 1) w)
  starts_on h e =
      let n : p + i + 1 ≡ p + (i + 1) = omega arith in
      starts_step h ∙ rw (eq-eqb (get_or w i 0) (peek s (p + i)) e, n)

pub starts_first : (s w : List ℕ) (p : ℕ) → starts s p w ≡ starts s (p + 0) (drop 0 w)
starts_first s w p = let z : p + 0 ≡ p = omega arith in rw z
