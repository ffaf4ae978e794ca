-- What is shown of every row of a program, by going once along a lowered formula.
-- Assumes nothing.
use mathlib.Core.Path.{◌≡◌, refl}
use mathlib.Core.Bool.{Bool, true, false}
use mathlib.Core.List.{List, [], ◌∷◌}
use Prim.Native.Nat.{ℕ, suc, ◌+◌, ◌<◌}
use native.Mathlib.Omega.{arith}
use lib.ListN.{length, length-append, replicate, length-replicate}
use Rattle.spec_tilco.specs.Lists.{total}
use Rattle.spec_tilco.specs.Inference.{Node, signal, not_of, gate, look, node}
use Rattle.spec_tilco.specs.Lowering.{BTL, lit, join, timed, size, joined, top_of, rows_of, rows_all, assembled, parts}
use Rattle.spec_tilco.proofs.Lists.{length_tab, length_laid}
use Rattle.spec_tilco.proofs.At.{At, at_append, at_replicate, at_get_d, joined_at, timed_at_lem}

pub length_rows : (c : BTL) (b : ℕ) → length (rows_of c b) ≡ size c
length_rows (lit true x) b = refl
length_rows (lit false x) b = refl
length_rows (join u a c) b = simp (length-append, length_rows a, length_rows c) (omega arith)
length_rows (timed u lo n a) b = simp (length-append, length_rows a, length_tab) (omega arith)

pub length_parts : (c : BTL) → length (parts c) ≡ size c
length_parts (lit true x) = refl
length_parts (lit false x) = refl
length_parts (join u a c) = simp (length-append, length_parts a, length_parts c) (omega arith)
length_parts (timed u lo n a) = simp (length-append, length_parts a, length_tab) (omega arith)

pub length_rows_all : (cs : List BTL) (b : ℕ) → length (rows_all cs b) ≡ total size cs
length_rows_all cs b = length_laid size rows_of length_rows cs b

-- A relation Q of rows and nodes, shown for each kind of node from what C says of a formula whose rows start at b. C is handed down to
-- the formula's parts.
pub record Along (C : BTL → ℕ → Type 0) (Q : ℕ → Node → Type 0) : Type 0 where
  pub left : (u : Bool) (a c : BTL) (b : ℕ) → C (join u a c) b → C a b
  pub right : (u : Bool) (a c : BTL) (b : ℕ) → C (join u a c) b → C c (b + size a)
  pub child : (u : Bool) (lo n : ℕ) (a : BTL) (b : ℕ) → C (timed u lo n a) b → C a b
  pub nots : (x b : ℕ) → C (lit false x) b → Q b (not_of x)
  pub joins : (u : Bool) (a c : BTL) (b : ℕ) → C (join u a c) b → Q (b + size a + size c) (gate u (top_of a b) (top_of c (b + size a)))
  pub looks : (u : Bool) (lo n : ℕ) (a : BTL) (b : ℕ) → C (timed u lo n a) b → (j : ℕ) → j < suc n → Q (b + size a + j) (look (lo + j) (top_of a b))
  pub ties : (u : Bool) (lo n : ℕ) (a : BTL) (b : ℕ) → C (timed u lo n a) b → (j : ℕ) → j < n
      → Q (b + size a + suc n + j) (gate u (joined (b + size a) (b + size a + suc n) j) (b + size a + suc j))

-- C holds of each formula, where their rows follow one another from b on.
abbrev pub Each : (BTL → ℕ → Type 0) → List BTL → ℕ → Type 0
Each C [] b = Unit {0}
Each C (c ∷ cs) b = C c b × Each C cs (b + size c)

module _ {C : BTL → ℕ → Type 0} {Q : ℕ → Node → Type 0} (L : Along C Q) where
  pub rows_along : (c : BTL) (b : ℕ) → C c b → At Q b (rows_of c b)
  rows_along (lit true x) b k = tt
  rows_along (lit false x) b k = (L.nots x b k, tt)
  rows_along (join u a c) b k =
      joined_at Q b (size a) (size c) (rows_of a b) (rows_of c (b + size a)) _ (length_rows a b) (length_rows c (b + size a))
      (record { left = rows_along a b (L.left u a c b k); right = rows_along c (b + size a) (L.right u a c b k); last = L.joins u a c b k })
  rows_along (timed u lo n a) b k =
      timed_at_lem Q b (size a) n (rows_of a b) (λ j. look (lo + j) (top_of a b)) (λ j. gate u (joined (b + size a) (b + size a + suc n) j) (b + size a + suc j)) (length_rows a b)
      (record { child = rows_along a b (L.child u lo n a b k); looks = L.looks u lo n a b k; ties = L.ties u lo n a b k })

  pub all_along : (cs : List BTL) (b : ℕ) → Each C cs b → At Q b (rows_all cs b)
  all_along [] b k = tt
  all_along (c ∷ cs) b k =
      at_append Q b (b + size c) (rows_of c b) (rows_all cs (b + size c)) (omega (arith, length_rows c b)) (rows_along c b k.0) (all_along cs (b + size c) k.1)

-- A relation that holds of signals and of each node holds of every row of the program.
pub every_row : (Q : ℕ → Node → Type 0) → ((r : ℕ) → Q r signal) → (m : ℕ) (cs : List BTL) → At Q m (rows_all cs m) → (r : ℕ) → Q r (node (assembled m cs) r)
every_row Q s m cs k =
    at_get_d Q signal s (assembled m cs).rows
    (at_append Q 0 m (replicate m signal) (rows_all cs m) (omega (arith, length-replicate m signal)) (at_replicate Q signal s 0 m) k)
