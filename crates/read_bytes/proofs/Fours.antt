-- Four bytes as one number: two such numbers are the same exactly if the bytes are, so that four bytes of a key are held against a text at once.
-- Assumes nothing.
use mathlib.Core.Path.{◌≡◌, refl, sym, ◌∙◌}
use mathlib.Core.Bool.{Bool, true, false, ◌&&◌, and_assoc}
use mathlib.Core.List.{List}
use Prim.Native.Nat.{ℕ, ◌+◌, ◌*◌, ◌<◌, ◌≤◌}
use native.Mathlib.Omega.{arith}
use borrow.Author.Tests.{eqb-true, eqb-false, eq-eqb, ne_eqb}
use lib.Dec.{eqb}
use lib.ListN.{length, get_or, drop}
use Rattle.read_bytes.specs.Bytes.{starts, four_at}
use Rattle.read_bytes.proofs.Places.{peek_in, starts_step}

-- Each entry of the list is a byte.
abbrev pub Small : List ℕ → Type 0
Small s = (k : ℕ) → get_or s k 0 < 256

-- Two numbers are the same exactly if their last bytes and what stands before those are.
eqb_byte : (x y m n : ℕ) → x < 256 → y < 256 → eqb (x + 256 * m) (y + 256 * n) ≡ eqb x y && eqb m n
eqb_byte x y m n h k = go (eqb x y) refl (eqb m n) refl
  where
    go : (a : Bool) → eqb x y ≡ a → (b : Bool) → eqb m n ≡ b → eqb (x + 256 * m) (y + 256 * n) ≡ a && b
    go true e true f = eq-eqb (x + 256 * m) (y + 256 * n) (omega (arith, eqb-true x y e, eqb-true m n f))
    go true e false f = ne_eqb (x + 256 * m) (y + 256 * n) (λ i. eqb-false m n f (omega (arith, eqb-true x y e)))
    go false e b f = ne_eqb (x + 256 * m) (y + 256 * n) (λ i. eqb-false x y e (omega arith))

nested : (s : List ℕ) (p : ℕ) → four_at s p ≡ get_or s p 0 + 256 * (get_or s (p + 1) 0 + 256 * (get_or s (p + 2) 0 + 256 * get_or s (p + 3) 0))
unfolding four_at
nested s p = omega arith

module _ (s w : List ℕ) (small : Small s) (key : Small w) where
  same_four : (p i : ℕ) → eqb (four_at w i) (four_at s p) ≡ eqb (get_or w i 0) (get_or s p 0) && (eqb (get_or w (i + 1) 0) (get_or s (p + 1) 0) && (eqb (get_or w (i + 2) 0) (get_or s (p + 2) 0) && eqb (get_or w (i + 3) 0) (get_or s (p + 3) 0)))
  same_four p i =
      rw (
        nested w i,
        nested s p,
        eqb_byte (get_or w i 0) (get_or s p 0) _ _ (key i) (small p),
        eqb_byte (get_or w (i + 1) 0) (get_or s (p + 1) 0) _ _ (key (i + 1)) (small (p + 1)),
        eqb_byte (get_or w (i + 2) 0) (get_or s (p + 2) 0) _ _ (key (i + 2)) (small (p + 2)),
      )

  -- The bytes of w from i on, of which there are four at least, stand there if four do and then the others.
  module _ (p : ℕ) (room : p + length w ≤ length s) where
    byte_on : (k q n : ℕ) → k < length w → q ≡ p + k → n ≡ k + 1 → starts s (p + k) (drop k w) ≡ eqb (get_or w k 0) (get_or s q 0) && starts s (p + n) (drop n w)
    byte_on k q n h e f =
        let g : p + k + 1 ≡ p + (k + 1) = omega arith in
        rw (e, f, peek_in s (p + k) (omega arith), ← g) (starts_step s w p k h)

    module _ (i : ℕ) (four : i + 4 ≤ length w) where
      step : starts s (p + i) (drop i w) ≡ eqb (four_at w i) (four_at s (p + i)) && starts s (p + (i + 4)) (drop (i + 4) w)
      step =
          byte_on i (p + i) (i + 1) (omega arith) refl refl
          ∙ rw (
            byte_on (i + 1) (p + i + 1) (i + 2) (omega arith) (omega arith) (omega arith),
            byte_on (i + 2) (p + i + 2) (i + 3) (omega arith) (omega arith) (omega arith),
            byte_on (i + 3) (p + i + 3) (i + 4) (omega arith) (omega arith) (omega arith),
            same_four (p + i) i,
            and_assoc,
            and_assoc,
            and_assoc,
          )

      pub fours_off : (four_at s (p + i) ≡ four_at w i → ⊥) → starts s (p + i) (drop i w) ≡ false
      fours_off n = step ∙ rw (ne_eqb (four_at w i) (four_at s (p + i)) (λ e. n (sym e)))

      pub fours_on : four_at s (p + i) ≡ four_at w i → starts s (p + i) (drop i w) ≡ starts s (p + (i + 4)) (drop (i + 4) w)
      fours_on e = step ∙ rw (eq-eqb (four_at w i) (four_at s (p + i)) (sym e))
