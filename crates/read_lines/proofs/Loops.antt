-- Loops over a text: a number of things in turn, and things up to an end.
-- Assumes nothing.
use mathlib.Core.Path.{◌≡◌, refl, sym, ap, subst, ◌∙◌}
use mathlib.Core.List.{List, [], ◌∷◌, ◌++◌}
use Prim.Native.Nat.{ℕ, zero, suc, ◌+◌, ◌-◌, ◌<◌, ◌≤◌}
use native.Mathlib.Omega.{arith}
use borrow.Author.Tests.{lt-ltb, le-ltb}
use lib.ListN.{length, length-append}
use Rattle.read_bytes.specs.Read.{Read}
use Rattle.read_bytes.specs.Read.Read.{got, refused}
use Rattle.read_lines.specs.Lines.{in_turn, up_to}
use Rattle.read_bytes.proofs.Places.{Reach}
use Rattle.read_bytes.proofs.Answers.{same_value, same_place, came, then_same}

module _ {A : Type 0} (P : List A → ℕ → Read A) where
  pub turn_end : (n : ℕ) (t : List A) (p : ℕ) → n ≡ 0 → in_turn P n t p ≡ got t p
  unfolding in_turn
  turn_end n t p e = rw e

  pub turn_off : (n : ℕ) (t : List A) (p : ℕ) {m k : ℕ} → 0 < n → P t p ≡ refused m k → in_turn P n t p ≡ refused m k
  unfolding in_turn
  turn_off zero t p h e = let w : ⊥ = omega arith in absurd w
  turn_off (suc n) t p h e = rw e

  turn_on : (n : ℕ) (t : List A) (p : ℕ) {a : A} {q : ℕ} → 0 < n → P t p ≡ got a q → in_turn P n t p ≡ in_turn P (n - 1) (t ++ (a ∷ [])) q
  unfolding in_turn
  turn_on zero t p h e = let w : ⊥ = omega arith in absurd w
  turn_on (suc n) t p h e = let back : suc n - 1 ≡ n = omega arith in rw (back, e)

  pub turn_start : (n : ℕ) (t : List A) (p : ℕ) → in_turn P n t p ≡ in_turn P (n - 0) t p
  turn_start n t p = let e : n ≡ n - 0 = omega arith in ap (λ (k : ℕ). in_turn P k t p) e

  pub turn_next : (n i : ℕ) (t : List A) (p : ℕ) {a : A} {q : ℕ} → i < n → P t p ≡ got a q → in_turn P (n - i) t p ≡ in_turn P (n - (i + 1)) (t ++ (a ∷ [])) q
  turn_next n i t p {a} {q} h e =
      let back : n - i - 1 ≡ n - (i + 1) = omega arith in
      turn_on (n - i) t p (omega arith) e ∙ ap (λ (k : ℕ). in_turn P k (t ++ (a ∷ [])) q) back

  -- Parts that J reads as P does, as long as Q holds of those before, are read in turn alike, and Q holds of them all.
  module _ (J : List A → ℕ → Read A) (Q : List A → Type 0) (part : (t : List A) (p : ℕ) (a : A) (q : ℕ) → Q t → P t p ≡ got a q → (J t p ≡ got a q) × Q (t ++ (a ∷ []))) where
    pub turn_alike : (n : ℕ) (t : List A) (p : ℕ) {u : List A} {q : ℕ} → Q t → in_turn P n t p ≡ got u q → (in_turn J n t p ≡ got u q) × Q u
    unfolding in_turn
    turn_alike zero t p h e = (e, subst Q (same_value e) h)
    turn_alike (suc n) t p h e =
        let d = came (P t p) (λ a q. in_turn P n (t ++ (a ∷ [])) q) e in
        let w = part t p d.value d.place h d.first in
        let r = turn_alike n (t ++ (d.value ∷ [])) d.place w.1 d.then in
        (rw w.0 r.0, r.1)

  -- What is read in turn is as long as it is said to be, and ends inside the text if each part does.
  module _ (s : List ℕ) (part : (t : List A) (p : ℕ) (a : A) (q : ℕ) → P t p ≡ got a q → Reach s p q) where
    pub turn_reach : (n : ℕ) (t : List A) (p : ℕ) {u : List A} {q : ℕ} → p ≤ length s → in_turn P n t p ≡ got u q → Reach s p q × (length u ≡ length t + n)
    unfolding in_turn
    turn_reach zero t p h e =
        let i = ap length (same_value e) in
        let j = same_place e in
        (record { ahead = omega arith; inside = omega arith }, omega arith)
    turn_reach (suc n) t p h e =
        let d = came (P t p) (λ a q. in_turn P n (t ++ (a ∷ [])) q) e in
        let w = part t p d.value d.place d.first in
        let r = turn_reach n (t ++ (d.value ∷ [])) d.place w.inside d.then in
        let l = length-append t (d.value ∷ []) in
        (record { ahead = omega (arith, w.ahead, r.0.ahead); inside = r.0.inside }, omega (arith, r.1))

module _ {A : Type 0} (P : ℕ → Read A) (end : ℕ) where
  pub up_end : (n : ℕ) (t : List A) (p : ℕ) → end ≤ p → up_to P end n t p ≡ got t p
  unfolding up_to
  up_end zero t p h = refl
  up_end (suc n) t p h = rw (le-ltb p end h)

  pub up_on : (n : ℕ) (t : List A) (p : ℕ) {a : A} {q : ℕ} → 0 < n → p < end → P p ≡ got a q → up_to P end n t p ≡ up_to P end (n - 1) (t ++ (a ∷ [])) q
  unfolding up_to
  up_on zero t p h l e = let w : ⊥ = omega arith in absurd w
  up_on (suc n) t p h l e = let back : suc n - 1 ≡ n = omega arith in rw (back, lt-ltb p end l, e)

  pub up_off : (n : ℕ) (t : List A) (p : ℕ) {m k : ℕ} → 0 < n → p < end → P p ≡ refused m k → up_to P end n t p ≡ refused m k
  unfolding up_to
  up_off zero t p h l e = let w : ⊥ = omega arith in absurd w
  up_off (suc n) t p h l e = rw (lt-ltb p end l, e)

  -- A bound that lets all be read changes nothing, if each part takes up a place.
  pub up_enough : ((p : ℕ) (a : A) (q : ℕ) → P p ≡ got a q → p + 1 ≤ q) → (n m : ℕ) (t : List A) (p : ℕ) → end ≤ p + n → end ≤ p + m → up_to P end n t p ≡ up_to P end m t p
  unfolding up_to
  up_enough part zero m t p h k = sym (up_end m t p (omega arith))
  up_enough part (suc n) zero t p h k = up_end (suc n) t p (omega arith)
  up_enough part (suc n) (suc m) t p h k =
      let e = then_same (P p) (λ a q. up_to P end n (t ++ (a ∷ [])) q) (λ a q. up_to P end m (t ++ (a ∷ [])) q)
      (λ a q f. up_enough part n m (t ++ (a ∷ [])) q (omega (arith, part p a q f)) (omega (arith, part p a q f))) in
      rw e
