-- Texts that stand at a place of a text: one after the other, and at its start.
-- Assumes nothing.
use mathlib.Core.Path.{◌≡◌, refl, sym, ◌∙◌}
use mathlib.Core.Bool.{true, and-eq-true_iff}
use mathlib.Core.List.{List, [], ◌∷◌, ◌++◌}
use Prim.Native.Nat.{ℕ, suc, ◌+◌, ◌<◌, ◌≤◌}
use native.Mathlib.Nat.{add-zero}
use native.Mathlib.Omega.{arith}
use borrow.Author.Tests.{eqb-true, eq-eqb}
use lib.Dec.{eqb}
use lib.ListN.{length, get_or, take, drop, length-append}
use lib.Seq.{take_all}
use Rattle.read_bytes.specs.Bytes.{peek, starts}
use Rattle.read_bytes.proofs.Places.{drop_in, peek_in}
use Rattle.read_bytes.proofs.Later.{starts_later}

module _ (s : List ℕ) where
  -- Bytes that stand one after the other.
  pub starts_both : (p : ℕ) (ws vs : List ℕ) → starts s p (ws ++ vs) ≡ true → (starts s p ws ≡ true) × (starts s (p + length ws) vs ≡ true)
  unfolding starts
  starts_both p [] vs h = (refl, rw add-zero h)
  starts_both p (x ∷ ws) vs h =
      let a = (and-eq-true_iff (eqb x (peek s p)) (starts s (p + 1) (ws ++ vs))).0 h in
      let b = starts_both (p + 1) ws vs a.1 in
      let e : p + suc (length ws) ≡ p + 1 + length ws = omega arith in
      (rw a.0 b.0, rw e b.1)

  pub starts_then : (p : ℕ) (ws vs : List ℕ) → starts s p ws ≡ true → starts s (p + length ws) vs ≡ true → starts s p (ws ++ vs) ≡ true
  unfolding starts
  starts_then p [] vs a b = rw add-zero at b
  starts_then p (x ∷ ws) vs a b =
      let w = (and-eq-true_iff (eqb x (peek s p)) (starts s (p + 1) ws)).0 a in
      let e : p + suc (length ws) ≡ p + 1 + length ws = omega arith in
      rw (w.0, starts_then (p + 1) ws vs w.1 (rw e at b))

  -- One byte.
  pub starts_one : (p x : ℕ) → starts s p (x ∷ []) ≡ true → x ≡ peek s p
  unfolding starts
  starts_one p x h = eqb-true x (peek s p) ((and-eq-true_iff (eqb x (peek s p)) true).0 h).0

  pub one_starts : (p x : ℕ) → x ≡ peek s p → starts s p (x ∷ []) ≡ true
  unfolding starts
  one_starts p x e = rw (eq-eqb x (peek s p) e)

-- A text stands at its own start, whatever follows.
pub starts_self : (w x : List ℕ) → starts (w ++ x) 0 w ≡ true
unfolding starts peek
starts_self [] x = refl
starts_self (y ∷ w) x = rw (eq-eqb y y refl, starts_later (y ∷ []) (w ++ x) 0 w) (starts_self w x)

-- The bytes w stand at p, inside the text s.
pub record Standing (s : List ℕ) (p : ℕ) (w : List ℕ) : Type 0 where
  pub bytes : starts s p w ≡ true
  pub inside : p + length w ≤ length s

-- Of two texts that stand one after the other, the first, and the second; and the two together.
module _ {s : List ℕ} {p : ℕ} (ws vs : List ℕ) where
  pub stands_first : Standing s p (ws ++ vs) → Standing s p ws
  stands_first h = record { bytes = (starts_both s p ws vs h.bytes).0; inside = omega (arith, h.inside, length-append ws vs) }

  pub stands_rest : Standing s p (ws ++ vs) → Standing s (p + length ws) vs
  stands_rest h = record { bytes = (starts_both s p ws vs h.bytes).1; inside = omega (arith, h.inside, length-append ws vs) }

  pub stands_then : Standing s p ws → Standing s (p + length ws) vs → Standing s p (ws ++ vs)
  stands_then a b = record { bytes = starts_then s p ws vs a.bytes b.bytes; inside = omega (arith, b.inside, length-append ws vs) }

pub stands_self : (w x : List ℕ) → Standing (w ++ x) 0 w
stands_self w x = record { bytes = starts_self w x; inside = omega (arith, length-append w x) }

-- The bytes that stand at a place are those of the text there.
pub stands_cut : (s : List ℕ) (p : ℕ) (w : List ℕ) → Standing s p w → take (length w) (drop p s) ≡ w
stands_cut s p [] h = refl
stands_cut s p (x ∷ w) h =
    let a = stands_first (x ∷ []) w h in
    let e = stands_cut s (p + 1) w (stands_rest (x ∷ []) w h) in
    let i : p < length s = omega (arith, a.inside) in
    let y : get_or s p 0 ≡ x = peek_in s p i ∙ sym (starts_one s p x a.bytes) in
    rw (drop_in s p 0 i, y, e)

-- A text that stands from the start of another to its end is that text.
pub stands_whole : (s w : List ℕ) → Standing s 0 w → length s ≡ length w → s ≡ w
stands_whole s w h e = sym (take_all (length w) s (omega arith)) ∙ stands_cut s 0 w h
