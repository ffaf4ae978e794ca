-- Laws of `Derives` that hold for every program: more marks lead to more, closing once is enough, and marks in any order close alike.
-- Assumes nothing.
use mathlib.Core.Logic.{inl, inr, ◌↔◌}
use Prim.Native.Nat.{ℕ, ◌<◌}
use Rattle.spec_tilco.specs.Inference.{Program, Mark, mark, Marks, One, down_left, down_right, up_left, up_right, look_down, look_up, not_down, not_up, Two, up_both, rest_right, rest_left, Derives, start, top, one, two, ◌or◌}
use Rattle.spec_tilco.specs.Table.{Inside}

module _ {P : Program} {W : ℕ} where
  -- What S leads to, anything leads to that leads to S.
  pub cut : {S R : Marks} → ((m : Mark) → S m → Derives P W R m) → {m : Mark} → Derives P W S m → Derives P W R m
  cut f (start {m} s) = f m s
  cut f (top i h) = top i h
  cut f (one r d) = one r (cut f d)
  cut f (two r d e) = two r (cut f d) (cut f e)

  -- More marks lead to more.
  pub monotone : {S R : Marks} → ((m : Mark) → S m → R m) → {m : Mark} → Derives P W S m → Derives P W R m
  monotone f d = cut (λ m s. start (f m s)) d

  -- Closing what is closed adds nothing.
  pub closed_once : {S : Marks} {m : Mark} → Derives P W (Derives P W S) m → Derives P W S m
  closed_once d = cut (λ m e. e) d

  -- Closing what is closed with more marks is closing all of them at once.
  pub in_turn_lem : (S R : Marks) (m : Mark) → Derives P W (◌or◌ (Derives P W S) R) m ↔ Derives P W (◌or◌ S R) m
  in_turn_lem S R m = (cut back, monotone there)
    where
      back : (n : Mark) → ◌or◌ (Derives P W S) R n → Derives P W (◌or◌ S R) n
      back n (inl d) = monotone (λ k s. inl s) d
      back n (inr r) = start (inr r)

      there : (n : Mark) → ◌or◌ S R n → ◌or◌ (Derives P W S) R n
      there n (inl s) = inl (start s)
      there n (inr r) = inr r

  -- Marks that come one set after the other close as they do in the other order.
  pub any_order : (S R Q : Marks) (m : Mark)
      → Derives P W (◌or◌ (Derives P W (◌or◌ S R)) Q) m → Derives P W (◌or◌ (Derives P W (◌or◌ S Q)) R) m
  any_order S R Q m d = (in_turn_lem (◌or◌ S Q) R m).1 (monotone swap ((in_turn_lem (◌or◌ S R) Q m).0 d))
    where
      swap : (n : Mark) → ◌or◌ (◌or◌ S R) Q n → ◌or◌ (◌or◌ S Q) R n
      swap n (inl (inl s)) = inl (inl s)
      swap n (inl (inr r)) = inr r
      swap n (inr q) = inl (inr q)

-- ---- no chain leaves the window

abbrev Early : ℕ → Mark → Type 0
Early W (mark r t v) = t < W

one_early : {P : Program} {W : ℕ} {p m : Mark} → One P W p m → Early W p → Early W m
one_early (down_left e) i = i
one_early (down_right e) i = i
one_early (up_left e) i = i
one_early (up_right e) i = i
one_early (look_down e z h k) i = k
one_early (look_up e z h k) i = h
one_early (not_down e) i = i
one_early (not_up e) i = i

two_early : {P : Program} (W : ℕ) {p q m : Mark} → Two P p q m → Early W p → Early W m
two_early W (up_both e) i = i
two_early W (rest_right e) i = i
two_early W (rest_left e) i = i

early : {P : Program} {W : ℕ} {S : Marks} → Inside W S → {m : Mark} → Derives P W S m → Early W m
early f (start {m = mark r t v} s) = f r t v s
early f (top i h) = h
early f (one r d) = one_early r (early f d)
early {W = W} f (two r d e) = two_early W r (early f d)

-- From marks inside the window the rules lead to no mark outside it.
pub stays_inside : {P : Program} {W : ℕ} {S : Marks} → Inside W S → Inside W (Derives P W S)
stays_inside f r t v d = early f d
