-- Answers of readers: what a case of one says, and where a value that was read came from.
-- Assumes nothing.
use mathlib.Core.Path.{◌≡◌, refl, sym, ap, ◌∙◌}
use mathlib.Core.Bool.{Bool, true, false}
use Prim.Native.Nat.{ℕ}
use native.Mathlib.Omega.{arith}
use Rattle.read_bytes.specs.Read.{Read, and_then}
use Rattle.read_bytes.specs.Read.Read.{got, refused}
use Rattle.read_bytes.specs.Bytes.{pick}

pub not_both : {A : Type 0} {a : A} {q n p : ℕ} → got a q ≡ refused n p → ⊥
not_both e = let z : ◌≡◌ {A = ℕ} 0 1 = cc in omega arith

module _ {A : Type 0} {a b : A} {p q : ℕ} (e : got a p ≡ got b q) where
  pub same_value : a ≡ b
  same_value = cc

  pub same_place : p ≡ q
  same_place = cc

-- What is read is what its answer says, by `says` or by another such definition.
pub answered : {X A : Type 0} (f : X → Read A) {a x : X} {R : Read A} → f a ≡ R → a ≡ x → R ≡ f x
answered f h g = sym h ∙ ap f g

-- A refusal is the answer of all that would have gone on.
pub hand_on : {A B : Type 0} (K : A → ℕ → Read B) {R : Read A} {n p : ℕ} → R ≡ refused n p → refused n p ≡ and_then R K
hand_on K e = rw e

-- A test let the value through.
pub through : {A : Type 0} (b : Bool) (x : A) (q n p : ℕ) {y : A} {r : ℕ} → pick b (λ _. got x q) (refused n p) ≡ got y r → (b ≡ true) × (x ≡ y) × (q ≡ r)
through true x q n p e = (refl, cc, cc)
through false x q n p e = absurd (not_both (sym e))

-- A test that does not hold.
pub unless : {A : Type 0} (b : Bool) (k : ℕ → A) (a : A) → (b ≡ true → ⊥) → a ≡ pick b k a
unless true k a n = absurd (n refl)
unless false k a n = refl

-- What was read first, and what it gave after that.
pub record Came {A B : Type 0} (R : Read A) (K : A → ℕ → Read B) (b : B) (r : ℕ) : Type 0 where
  pub value : A
  pub place : ℕ
  pub first : R ≡ got value place
  pub then : K value place ≡ got b r

pub came : {A B : Type 0} (R : Read A) (K : A → ℕ → Read B) {b : B} {r : ℕ} → and_then R K ≡ got b r → Came R K b r
came (got a q) K e = record { value = a; place = q; first = refl; then = e }
came (refused n p) K e = absurd (not_both (sym e))

-- What goes on alike from what was read comes to the same.
pub then_same : {A B : Type 0} (R : Read A) (K J : A → ℕ → Read B) → ((a : A) (q : ℕ) → R ≡ got a q → K a q ≡ J a q) → and_then R K ≡ and_then R J
then_same (got a q) K J h = h a q refl
then_same (refused n p) K J h = refl
