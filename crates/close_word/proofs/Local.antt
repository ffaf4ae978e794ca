-- What is settled stays settled where the words that it rests on are the same, and a row that is settled in every word is settled.
-- Assumes nothing.
use mathlib.Core.Path.{refl}
use mathlib.Core.Bool.{not}
use mathlib.Core.List.{List}
use mathlib.Core.Logic.{inl, inr}
use Prim.Native.Nat.{ℕ, ◌*◌, ◌/◌, ◌≤◌, ◌<◌}
use native.Mathlib.Omega.{arith}
use Rattle.spec_tilco.specs.Inference.{Node, signal, not_of, gate, look, Mark, mark, Marks, GateSettled}
use Rattle.spec_tilco.specs.Table.{Stands}
use Rattle.spec_tilco.proofs.Closing.{SettledAt}
use Rattle.close_rules.specs.Settled.{SettledTo, SettledIn, Rests, SameWord}
use Rattle.close_list.proofs.Starting.{seen_from}

-- More marks that a look may give its child.
pub settled_more : (C C' : Marks) (q W : ℕ) (S : Marks) (r : ℕ) (d : Node) → ((m : Mark) → C m → C' m) → SettledTo C q W S r d → SettledTo C' q W S r d
settled_more C C' q W S r signal f h = tt
settled_more C C' q W S r (not_of x) f h = h
settled_more C C' q W S r (gate u a b) f h = h
settled_more C C' q W S r (look k c) f h = λ t s v d l m e. let z = h t s v d l m e in (λ i. f (mark c s v) (z.0 i), z.1)

module _ (n W : ℕ) (T T' : List ℕ) (grows : (m : Mark) → Stands n T m → Stands n T' m) (C : Marks) where
  pub settled_local : (r q : ℕ) (d : Node) → ((x p : ℕ) → Rests d r q x p → SameWord n T T' x p) → SettledTo C q W (Stands n T) r d → SettledTo C q W (Stands n T') r d
  settled_local r q signal f h = tt
  settled_local r q (not_of x) f h =
      λ t v e. (
        λ i. grows (mark x t (not v)) ((h t v e).0 (f r q (refl, inl refl) t v e i)),
        λ i. grows (mark r t (not v)) ((h t v e).1 (f x q (refl, inr refl) t v e i)),
      )
  settled_local r q (gate u a b) f h =
      λ t e. let k = h t e in record {
        down_left = λ i. grows (mark a t u) (k.down_left (own t u e i));
        down_right = λ i. grows (mark b t u) (k.down_right (own t u e i));
        up_both = λ i j. grows (mark r t u) (k.up_both (left t u e i) (right t u e j));
        up_left = λ i. grows (mark r t (not u)) (k.up_left (left t (not u) e i));
        up_right = λ i. grows (mark r t (not u)) (k.up_right (right t (not u) e i));
        rest_right = λ i j. grows (mark b t (not u)) (k.rest_right (own t (not u) e i) (left t u e j));
        rest_left = λ i j. grows (mark a t (not u)) (k.rest_left (own t (not u) e i) (right t u e j));
      }
    where
      own : SameWord n T T' r q
      own = f r q (refl, inl refl)

      left : SameWord n T T' a q
      left = f a q (refl, inr (inl refl))

      right : SameWord n T T' b q
      right = f b q (refl, inr (inr refl))
  settled_local r q (look k c) f h =
      λ t s v d l m e. (
        λ i. (h t s v d l m e).0 (f r (t / 64) (inr (refl, seen_from t k s q d e)) t v refl i),
        λ i. grows (mark r t v) ((h t s v d l m e).1 (f c q (inl (refl, refl)) s v e i)),
      )

-- Where the rules of a row add nothing to any word, they add nothing.
pub settled_all : (n W : ℕ) (X : List ℕ) (r : ℕ) (d : Node) → W ≤ n * 64 → ((q : ℕ) → q < n → SettledIn q W (Stands n X) r d) → SettledAt W (Stands n X) r d
settled_all n W X r signal l h = tt
settled_all n W X r (not_of x) l h =
    λ t v. (λ i. (h (t / 64) (omega (arith, i.within)) t v refl).0 i, λ i. (h (t / 64) (omega (arith, i.within)) t v refl).1 i)
settled_all n W X r (gate u a b) l h =
    λ t. let at : t < n * 64 → GateSettled (Stands n X) u r a b t = λ k. h (t / 64) (omega arith) t refl in record {
      down_left = λ i. (at i.within).down_left i;
      down_right = λ i. (at i.within).down_right i;
      up_both = λ i. (at i.within).up_both i;
      up_left = λ i. (at i.within).up_left i;
      up_right = λ i. (at i.within).up_right i;
      rest_right = λ i. (at i.within).rest_right i;
      rest_left = λ i. (at i.within).rest_left i;
    }
settled_all n W X r (look k c) l h = λ t s v d a b. h (s / 64) (omega arith) t s v d a b refl
