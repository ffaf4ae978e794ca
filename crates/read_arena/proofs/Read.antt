-- The rule at a node goes by the node's kind, over the rules at the nodes before it.
-- Assumes nothing.
use mathlib.Core.Path.{◌≡◌, refl, ap, ◌∙◌}
use mathlib.Core.List.{List}
use Prim.Native.Nat.{ℕ, zero, suc, ◌-◌, ◌<◌}
use native.Mathlib.Omega.{arith}
use Rattle.read_arena.specs.Nodes.{node_at, put_node}
use Rattle.read_arena.specs.NodeRules.{NodeRule, form_of, text_of, rules_of, node_rule_of, node_rule_to, node_rule_at, form_at, written_at, definings_at, ChildrenBefore, Arena, NodeRoom, Same}
use Rattle.read_arena.specs.declared.Node.{Node}
use Rattle.read_arena.specs.declared.Node.TheVariants.{Name, Deny, Pair, Time, Keep}
use Rattle.read_arena.proofs.Puts.{node_new, same_put, arena_put}

-- A node's rule goes by those before it alone.
reading_local : (k : Node) (n : ℕ) (f g : ℕ → NodeRule) → ChildrenBefore k n → ((i : ℕ) → i < n → f i ≡ g i) → node_rule_of k n f ≡ node_rule_of k n g
reading_local (Name x) n f g r h = refl
reading_local (Deny x) n f g r h = rw (h x r)
reading_local (Pair s x y) n f g r h = rw (h x r.0, h y r.1)
reading_local (Time u x first more) n f g r h = rw (h x r.0)
reading_local (Keep b x y row) n f g r h = rw (h x r.0, h y r.1, h (n - 1) (omega arith))

-- Any depth past the node's number gives the same rule, and so do the same nodes in another buffer.
read_deep : (c : ℕ) (a b : List ℕ) → Arena c a → Same c a b → (d e n : ℕ) → n < d → n < e → n < c → node_rule_to d b n ≡ node_rule_to e a n
unfolding node_rule_to
read_deep c a b A s zero e n hd he h = absurd (omega arith)
read_deep c a b A s (suc d) zero n hd he h = absurd (omega arith)
read_deep c a b A s (suc d) (suc e) n hd he h =
    rw (s.node n h)
    (reading_local (node_at a n) n (node_rule_to d b) (node_rule_to e a) (A.right n h)
    (λ i lt. read_deep c a b A s d e i (omega arith) (omega arith) (omega arith)))

-- The same nodes have the same rules.
pub read_same : {c : ℕ} {a b : List ℕ} → Arena c a → Same c a b → (n : ℕ) → n < c → node_rule_at b n ≡ node_rule_at a n
unfolding node_rule_at
read_same {c} {a} {b} A s n h = read_deep c a b A s (suc n) (suc n) n (omega arith) (omega arith) h

-- The rule at node n, which is k.
pub read_step : {c : ℕ} {a : List ℕ} (k : Node) (n : ℕ) → Arena c a → n < c → node_at a n ≡ k → node_rule_at a n ≡ node_rule_of k n (node_rule_at a)
unfolding node_rule_at node_rule_to
read_step {c} {a} k n A h e =
    rw (← e)
    (reading_local (node_at a n) n (node_rule_to n a) (node_rule_at a) (A.right n h)
    (λ i lt. read_deep c a a A (record { node = λ m l. refl }) n (suc i) i lt (omega arith) (omega arith)))

module _ {c : ℕ} {a : List ℕ} (k : Node) (n : ℕ) (A : Arena c a) (h : n < c) (e : node_at a n ≡ k) where
  -- Its formula.
  pub form_step : form_at a n ≡ form_of k (form_at a)
  unfolding form_at
  form_step = ap (λ (r : NodeRule). r.form) (read_step k n A h e)

  -- Its rule as it is written.
  pub text_step : written_at a n ≡ text_of k (written_at a)
  unfolding written_at
  text_step = ap (λ (r : NodeRule). r.text) (read_step k n A h e)

  -- The defining rules of its hidden signals.
  pub definings_step : definings_at a n ≡ rules_of k n (form_at a) (definings_at a)
  unfolding form_at definings_at
  definings_step = ap (λ (r : NodeRule). r.definings) (read_step k n A h e)

  -- What it keeps to.
  pub right_step : ChildrenBefore k n
  right_step = rw (← e) (A.right n h)

-- The rule at a node that was put, by those before it.
pub read_put : {a : List ℕ} {c : ℕ} (k : Node) → Arena c a → NodeRoom a c 1 → ChildrenBefore k c → node_rule_at (put_node a c k) c ≡ node_rule_of k c (node_rule_at a)
read_put {a} {c} k A R r =
    read_step k c (arena_put k A R r) (omega arith) (node_new a c k (omega arith))
    ∙ reading_local k c (node_rule_at (put_node a c k)) (node_rule_at a) r (λ i lt. read_same A (same_put a c c k (omega arith)) i lt)
