-- What stands at a node: the formula that is lowered, the rule as it is written, the defining rules of its hidden signals.
-- Assumes nothing.
use Rattle.std.specs.Prelude.{◌≡◌, List, [], ◌∷◌, ◌++◌, ℕ, zero, suc, ◌+◌, ◌-◌, ◌*◌, ◌≤◌, ◌<◌, length}
use Rattle.spec_limits.specs.Limits.{most_offset}
use Rattle.spec_tilco.specs.Formula.{Formula, Written, over_signals, definings as definingsOf}
use Rattle.read_arena.specs.declared.Node.{Node}
use Rattle.read_arena.specs.declared.Node.TheVariants.{Name, Deny, Pair, Time, Keep}
use Rattle.read_arena.specs.Nodes.{op_of, node_at}

-- The rule at a node: the formula that is lowered, the rule as it is written, and the defining rules of its hidden signals.
pub record NodeRule : Type 0 where
  pub form : Formula
  pub text : Written
  pub definings : List Formula

-- A node's formula, f giving each child's: a since or an until is its hidden signal.
abbrev pub form_of : Node → (ℕ → Formula) → Formula
form_of (Name x) f = Formula.sig x
form_of (Deny x) f = Formula.neg (f x)
form_of (Pair s x y) f = Formula.pair (op_of s) (f x) (f y)
form_of (Time u x first more) f = Formula.time u first more (f x)
form_of (Keep b x y row) f = Formula.sig row

-- A node's rule as it is written, f giving each child's.
abbrev pub text_of : Node → (ℕ → Written) → Written
text_of (Name x) f = Written.name x
text_of (Deny x) f = Written.neg (f x)
text_of (Pair s x y) f = Written.pair (op_of s) (f x) (f y)
text_of (Time u x first more) f = Written.time u first more (f x)
text_of (Keep b x y row) f = Written.keep b (f x) (f y)

-- The defining rules of the hidden signals of node n, f giving each child's and `form` each formula: that of a since or an until is the
-- formula just before it.
abbrev pub rules_of : Node → ℕ → (ℕ → Formula) → (ℕ → List Formula) → List Formula
rules_of (Name x) n form f = []
rules_of (Deny x) n form f = f x
rules_of (Pair s x y) n form f = f x ++ f y
rules_of (Time u x first more) n form f = f x
rules_of (Keep b x y row) n form f = form (n - 1) ∷ f x ++ f y

-- The rule at node n, by those before it.
abbrev pub node_rule_of : Node → ℕ → (ℕ → NodeRule) → NodeRule
node_rule_of k n f = record {
  form = form_of k (λ i. (f i).form);
  text = text_of k (λ i. (f i).text);
  definings = rules_of k n (λ i. (f i).form) (λ i. (f i).definings);
}

-- The rule at node n, to a depth of d.
unfoldable pub node_rule_to : ℕ → List ℕ → ℕ → NodeRule
node_rule_to zero a n = record { form = Formula.sig 0; text = Written.name 0; definings = [] }
node_rule_to (suc d) a n = node_rule_of (node_at a n) n (node_rule_to d a)

-- The rule at node n.
unfoldable pub node_rule_at : List ℕ → ℕ → NodeRule
node_rule_at a n = node_rule_to (suc n) a n

-- The formula at node n.
unfoldable pub form_at : List ℕ → ℕ → Formula
form_at a n = (node_rule_at a n).form

-- The rule at node n as it is written.
unfoldable pub written_at : List ℕ → ℕ → Written
written_at a n = (node_rule_at a n).text

-- The defining rules of the hidden signals of the rule at node n, in the order written.
unfoldable pub definings_at : List ℕ → ℕ → List Formula
definings_at a n = (node_rule_at a n).definings

-- What node k keeps to at number n: its children stand before it, and an interval has offsets from -63 to 63.
abbrev pub ChildrenBefore : Node → ℕ → Type 0
ChildrenBefore (Name x) n = Unit {0}
ChildrenBefore (Deny x) n = x < n
ChildrenBefore (Pair s x y) n = (x < n) × (y < n)
ChildrenBefore (Time u x first more) n = (x < n) × (1 ≤ first) × (first + more ≤ most_offset)
ChildrenBefore (Keep b x y row) n = (x < n) × (y < n)

-- A number of the buffer has two bytes: it is less.
abbrev pub two_bytes : ℕ
two_bytes = 65536

-- A node that can be put: its children's numbers have two bytes.
abbrev pub Storable : Node → Type 0
Storable k = ChildrenBefore k two_bytes

-- Each of the nodes is right, from number n on.
abbrev pub AllChildrenBefore : List Node → ℕ → Type 0
AllChildrenBefore [] n = Unit {0}
AllChildrenBefore (k ∷ ks) n = ChildrenBefore k n × AllChildrenBefore ks (suc n)

-- Node n lies in the buffer.
abbrev pub HasNode : List ℕ → ℕ → Type 0
HasNode a n = 4 * n + 4 ≤ length a

-- The first c nodes lie in the buffer, and each is as it should be.
pub record Arena (c : ℕ) (a : List ℕ) : Type 0 where
  pub inside : 4 * c ≤ length a
  pub right : (n : ℕ) → n < c → ChildrenBefore (node_at a n) n

-- Node n stands in the arena, and so do all before it.
abbrev pub NodeIn : List ℕ → ℕ → Type 0
NodeIn a n = Arena (n + 1) a

-- Two nodes do.
pub record NodesIn (a : List ℕ) (l r : ℕ) : Type 0 where
  pub left : NodeIn a l
  pub right : NodeIn a r

-- The buffer has room for k nodes past the first c, whose numbers have two bytes.
pub record NodeRoom (a : List ℕ) (c k : ℕ) : Type 0 where
  pub fits : 4 * (c + k) ≤ length a
  pub few : c + k ≤ two_bytes

-- The first c nodes are the same in a and in b.
pub record Same (c : ℕ) (a b : List ℕ) : Type 0 where
  pub node : (n : ℕ) → n < c → node_at b n ≡ node_at a n

-- What stands at the node of the rule w, its hidden signals numbered from x.
abbrev pub node_rule_for : ℕ → Written → NodeRule
node_rule_for x w = record { form = over_signals x w; text = w; definings = definingsOf x w }

-- The rule w stands at node n, its hidden signals numbered from x.
pub record Held (a : List ℕ) (x n : ℕ) (w : Written) : Type 0 where
  pub text : written_at a n ≡ w
  pub form : form_at a n ≡ over_signals x w
  pub definings : definings_at a n ≡ definingsOf x w
