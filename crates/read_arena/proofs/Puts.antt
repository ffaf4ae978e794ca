-- A node put at a number stands there, the others stay, and an arena grows by it.
-- Assumes nothing.
use mathlib.Core.Path.{◌≡◌, refl, ◌∙◌}
use mathlib.Core.Bool.{true, false}
use mathlib.Core.List.{List, [], ◌∷◌}
use Prim.Native.Nat.{ℕ, zero, suc, ◌+◌, ◌*◌, ◌≤◌, ◌<◌}
use native.Mathlib.Nat.{add-zero, add-suc, suc-add}
use native.Mathlib.Decide.{ℕ_discrete}
use native.Mathlib.Numerals.{towards_suc}
use native.Mathlib.Omega.{arith}
use lib.ListN.{length, get_or, set, length-set}
use lib.Seq.{sets, length-sets, get_or-set_same, get_or-set_other}
use Rattle.read_arena.specs.Nodes.{sign_of, node_of, node_at, code_of, put_node, put_nodes}
use Rattle.read_arena.specs.NodeRules.{ChildrenBefore, AllChildrenBefore, Arena, NodeRoom, Same}
use Rattle.read_arena.specs.declared.Sign.{Sign}
use Rattle.read_arena.specs.declared.Node.{Node}
use Rattle.read_arena.specs.declared.Node.TheVariants.{Name, Deny, Pair, Time, Keep}

-- Stores leave what stands elsewhere.
other_sets : (m : List ℕ) (i j : ℕ) (ws : List ℕ) → ((t : ℕ) → t < length ws → ¬ (j ≡ i + t)) → get_or (sets m i ws) j 0 ≡ get_or m j 0
other_sets m i j [] h = refl
other_sets m i j (w ∷ ws) h =
    other_sets (set m i w) (suc i) j ws (λ t lt e. h (suc t) (omega arith) (omega arith)) ∙ get_or-set_other m i j w 0 (λ e. h 0 (omega arith) (omega arith))

-- What is stored stands in its turn.
at_sets : (m : List ℕ) (i j : ℕ) (ws : List ℕ) → j < length ws → i + length ws ≤ length m → get_or (sets m i ws) (i + j) 0 ≡ get_or ws j 0
at_sets m i j [] h fits = absurd (omega arith)
at_sets m i zero (w ∷ ws) h fits =
    rw add-zero (other_sets (set m i w) (suc i) i ws (λ t lt e. omega arith) ∙ get_or-set_same m i w 0 (omega arith))
at_sets m i (suc j) (w ∷ ws) h fits =
    rw (add-suc, ← suc-add) (at_sets (set m i w) (suc i) j ws (omega arith) (omega (arith, length-set m i w)))

-- A node has four numbers.
pub code_length : (k : Node) → length (code_of k) ≡ 4
unfolding code_of
code_length (Name x) = refl
code_length (Deny x) = refl
code_length (Pair s x y) = refl
code_length (Time true x first more) = refl
code_length (Time false x first more) = refl
code_length (Keep true x y row) = refl
code_length (Keep false x y row) = refl

-- Four numbers stored one after the other.
pub four_stored : (a ws : List ℕ) (i : ℕ) → length ws ≡ 4
    → set (set (set (set a i (get_or ws 0 0)) (i + 1) (get_or ws 1 0)) (i + 2) (get_or ws 2 0)) (i + 3) (get_or ws 3 0) ≡ sets a i ws
four_stored a [] i e = absurd (omega arith)
four_stored a (w ∷ []) i e = absurd (omega arith)
four_stored a (w ∷ x ∷ []) i e = absurd (omega arith)
four_stored a (w ∷ x ∷ y ∷ []) i e = absurd (omega arith)
four_stored a (w ∷ x ∷ y ∷ z ∷ []) i e = simp towards_suc
four_stored a (v ∷ w ∷ x ∷ y ∷ z ∷ ws) i e = absurd (omega arith)

-- They give the node back.
code_node : (k : Node) → node_of (get_or (code_of k) 0 0) (get_or (code_of k) 1 0) (get_or (code_of k) 2 0) (get_or (code_of k) 3 0) ≡ k
unfolding code_of node_of sign_of
code_node (Name x) = refl
code_node (Deny x) = refl
code_node (Pair Sign.And x y) = refl
code_node (Pair Sign.Or x y) = refl
code_node (Pair Sign.Implies x y) = refl
code_node (Pair Sign.Iff x y) = refl
code_node (Time true x first more) = refl
code_node (Time false x first more) = refl
code_node (Keep true x y row) = refl
code_node (Keep false x y row) = refl

-- The buffer's length stays.
pub length_put : (a : List ℕ) (c : ℕ) (k : Node) → length (put_node a c k) ≡ length a
unfolding put_node
length_put a c k = length-sets a (4 * c) (code_of k)

-- The node stands where it was put.
pub node_new : (a : List ℕ) (c : ℕ) (k : Node) → 4 * c + 4 ≤ length a → node_at (put_node a c k) c ≡ k
unfolding node_at put_node
node_new a c k room =
    let e : (i : ℕ) → i < 4 → get_or (sets a (4 * c) (code_of k)) (4 * c + i) 0 ≡ get_or (code_of k) i 0 =
    λ i lt. at_sets a (4 * c) i (code_of k) (omega (arith, code_length k)) (omega (arith, code_length k)) in
    rw (rw add-zero at (e 0 (omega arith)), e 1 (omega arith), e 2 (omega arith), e 3 (omega arith)) (code_node k)

-- Every other node stays.
pub node_other : (a : List ℕ) (c : ℕ) (k : Node) (n : ℕ) → ¬ (n ≡ c) → node_at (put_node a c k) n ≡ node_at a n
unfolding node_at put_node
node_other a c k n ne =
    let e : (i : ℕ) → i < 4 → get_or (sets a (4 * c) (code_of k)) (4 * n + i) 0 ≡ get_or a (4 * n + i) 0 =
    λ i lt. other_sets a (4 * c) (4 * n + i) (code_of k) (λ t l q. omega (arith, ne, code_length k)) in
    rw (rw add-zero at (e 0 (omega arith)), e 1 (omega arith), e 2 (omega arith), e 3 (omega arith))

-- So the nodes before it are the same.
pub same_put : (a : List ℕ) (c d : ℕ) (k : Node) → c ≤ d → Same c a (put_node a d k)
same_put a c d k h = record { node = λ n lt. node_other a d k n (λ e. omega arith) }

-- The same nodes as in a buffer with the same nodes.
pub same_then : {a b d : List ℕ} {c : ℕ} → Same c a b → Same c b d → Same c a d
same_then s t = record { node = λ n lt. t.node n lt ∙ s.node n lt }

-- A node's children stand before a later number too.
pub right_later : (k : Node) (n m : ℕ) → n ≤ m → ChildrenBefore k n → ChildrenBefore k m
right_later (Name x) n m h r = tt
right_later (Deny x) n m h r = omega arith
right_later (Pair s x y) n m h r = (omega arith, omega arith)
right_later (Time u x first more) n m h r = (omega arith, omega arith, omega arith)
right_later (Keep b x y row) n m h r = (omega arith, omega arith)

-- Fewer nodes are an arena too.
pub arena_fewer : {a : List ℕ} {c : ℕ} (d : ℕ) → d ≤ c → Arena c a → Arena d a
arena_fewer d h A = record { inside = omega (arith, A.inside); right = λ n lt. A.right n (omega arith) }

-- An arena grows by a node that is right.
pub arena_put : {a : List ℕ} {c : ℕ} (k : Node) → Arena c a → NodeRoom a c 1 → ChildrenBefore k c → Arena (c + 1) (put_node a c k)
arena_put {a} {c} k A R r = record { inside = omega (arith, length_put a c k); right = λ n lt. go n lt (ℕ_discrete n c) }
  where
    go : (n : ℕ) → n < c + 1 → Dec (n ≡ c) → ChildrenBefore (node_at (put_node a c k) n) n
    go n lt (yes e) = rw (e, node_new a c k (omega arith)) r
    go n lt (no ne) = rw (node_other a c k n ne) (A.right n (omega (arith, ne)))

-- The buffer's length stays when several are put.
pub length_puts : (a : List ℕ) (c : ℕ) (ks : List Node) → length (put_nodes a c ks) ≡ length a
unfolding put_nodes
length_puts a c [] = refl
length_puts a c (k ∷ ks) = length_puts (put_node a c k) (suc c) ks ∙ length_put a c k

-- The nodes before them are the same.
pub same_puts : (a : List ℕ) (c d : ℕ) (ks : List Node) → c ≤ d → Same c a (put_nodes a d ks)
unfolding put_nodes
same_puts a c d [] h = record { node = λ n lt. refl }
same_puts a c d (k ∷ ks) h = same_then (same_put a c d k h) (same_puts (put_node a d k) c (suc d) ks (omega arith))

-- Each stands in its turn.
pub node_puts : (a : List ℕ) (c j : ℕ) (ks : List Node) → j < length ks → 4 * (c + length ks) ≤ length a
    → node_at (put_nodes a c ks) (c + j) ≡ get_or ks j (Name 0)
unfolding put_nodes
node_puts a c j [] h fits = absurd (omega arith)
node_puts a c zero (k ∷ ks) h fits =
    rw add-zero ((same_puts (put_node a c k) (suc c) (suc c) ks (omega arith)).node c (omega arith) ∙ node_new a c k (omega arith))
node_puts a c (suc j) (k ∷ ks) h fits =
    rw (add-suc, ← suc-add) (node_puts (put_node a c k) (suc c) j ks (omega arith) (omega (arith, length_put a c k)))

-- An arena grows by nodes that are right.
pub arena_puts : (a : List ℕ) (c d : ℕ) (ks : List Node) → d ≡ c + length ks → Arena c a → NodeRoom a c (length ks) → AllChildrenBefore ks c
    → Arena d (put_nodes a c ks)
unfolding put_nodes
arena_puts a c d [] e A R r = arena_fewer d (omega arith) A
arena_puts a c d (k ∷ ks) e A R r =
    arena_puts (put_node a c k) (suc c) d ks (omega arith)
    (arena_fewer (suc c) (omega arith) (arena_put k A (record { fits = omega arith; few = omega arith }) r.0))
    (record { fits = omega (arith, length_put a c k); few = omega arith })
    r.1
