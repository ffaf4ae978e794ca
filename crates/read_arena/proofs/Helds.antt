-- How a rule that is read part by part stands in the arena: what the parser shows of each node that it puts.
-- Assumes nothing.
use mathlib.Core.Path.{◌≡◌, refl, ◌∙◌}
use mathlib.Core.Bool.{Bool}
use mathlib.Core.List.{List}
use Prim.Native.Nat.{ℕ, ◌+◌, ◌≤◌, ◌<◌}
use Rattle.spec_limits.specs.Limits.{most_offset}
use Rattle.spec_tilco.specs.Formula.{Written, hiddens}
use Rattle.read_arena.specs.Nodes.{op_of, put_node}
use Rattle.read_arena.specs.NodeRules.{node_rule_of, node_rule_to, node_rule_at, form_at, written_at, definings_at, ChildrenBefore, Arena, NodeRoom, Same, Held, node_rule_for}
use Rattle.read_arena.specs.declared.Sign.{Sign}
use Rattle.read_arena.specs.declared.Node.{Node}
use Rattle.read_arena.specs.declared.Node.TheVariants.{Name, Deny, Pair, Time}
use Rattle.read_arena.proofs.Read.{read_same, read_put}

-- A rule that stands at a node is the node's.
pub held_read : {a : List ℕ} {x n : ℕ} {w : Written} → Held a x n w → node_rule_at a n ≡ node_rule_for x w
unfolding form_at written_at definings_at node_rule_at node_rule_to
held_read h = cc

-- The node's rule stands at it.
pub read_held : {a : List ℕ} {x n : ℕ} {w : Written} → node_rule_at a n ≡ node_rule_for x w → Held a x n w
unfolding form_at written_at definings_at
read_held e = record { text = cc; form = cc; definings = cc }

-- The same nodes hold the same rules.
pub held_kept : {a b : List ℕ} {c x n : ℕ} {w : Written} → Arena c a → Same c a b → n < c → Held a x n w → Held b x n w
held_kept {n = n} A s lt h = read_held (read_same A s n lt ∙ held_read h)

module _ {a : List ℕ} {c : ℕ} (A : Arena c a) (R : NodeRoom a c 1) where
  -- A rule stands at the node that was put, where it is that node's.
  held_put : (k : Node) (x : ℕ) (w : Written) → ChildrenBefore k c → node_rule_of k c (node_rule_at a) ≡ node_rule_for x w → Held (put_node a c k) x c w
  held_put k x w r e = read_held (read_put k A R r ∙ e)

  -- A name.
  pub held_name : (x y : ℕ) → Held (put_node a c (Name y)) x c (Written.name y)
  held_name x y = held_put (Name y) x (Written.name y) tt refl

  -- Not.
  pub held_neg : {x l : ℕ} {w : Written} → l < c → Held a x l w → Held (put_node a c (Deny l)) x c (Written.neg w)
  held_neg {x} {l} {w} hl h = held_put (Deny l) x (Written.neg w) hl (cc (held_read h))

  -- Two rules with a sign between them: the hidden signals of the second follow those of the first.
  pub held_pair : {x l r : ℕ} {w v : Written} (s : Sign) → l < c → r < c → Held a x l w → Held a (x + hiddens w) r v
      → Held (put_node a c (Pair s l r)) x c (Written.pair (op_of s) w v)
  held_pair {x} {l} {r} {w} {v} s hl hr h k = held_put (Pair s l r) x (Written.pair (op_of s) w v) (hl, hr) (rw (held_read h, held_read k))

  -- An interval, @ or ?.
  pub held_time : {x l : ℕ} {w : Written} (u : Bool) (first more : ℕ) → l < c → 1 ≤ first → first + more ≤ most_offset → Held a x l w
      → Held (put_node a c (Time u l first more)) x c (Written.time u first more w)
  held_time {x} {l} {w} u first more hl low high h =
      held_put (Time u l first more) x (Written.time u first more w) (hl, low, high) (cc (held_read h))
