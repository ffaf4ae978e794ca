-- The formula at a node of the arena, by the node's kind: its names are declared, its text is made of its children's, and its children are smaller.
-- Assumes nothing. T is the index of the declared names, a the arena.
use mathlib.Core.Path.{◌≡◌, sym, ap, subst}
use mathlib.Core.List.{List, ◌++◌}
use Prim.Native.Nat.{ℕ, ◌+◌, ◌<◌}
use native.Mathlib.Omega.{arith}
use lib.Dec.{ltb}
use Rattle.read_bytes.specs.Bytes.{byte}
use Rattle.spec_tilco.specs.Formula.{Written, Named}
use Rattle.read_index.specs.Index.{name_count}
use Rattle.read_arena.specs.Nodes.{node_at}
use Rattle.read_arena.specs.NodeRules.{text_of, written_at, ChildrenBefore}
use Rattle.read_arena.specs.declared.Node.{Node}
use Rattle.read_arena.specs.declared.Node.TheVariants.{Name, Deny, Pair, Time, Keep}
use Rattle.read_arena.proofs.Puts.{arena_fewer}
use Rattle.read_arena.proofs.Read.{text_step, right_step}
use Rattle.spec_print.specs.RuleTexts.{rank, part_of}
use Rattle.write_formula.specs.PartTexts.{bare_text, part_text, paren_text, NamedNode, NamedParts}
use Rattle.write_formula.proofs.Parts.{part_parts}

-- How large a formula is.
unfoldable pub weight : Written → ℕ
weight (Written.name x) = 1
weight (Written.neg f) = 1 + weight f
weight (Written.pair o f g) = 1 + weight f + weight g
weight (Written.time u first more f) = 1 + weight f
weight (Written.keep b f g) = 1 + weight f + weight g

module _ {T a : List ℕ} {n : ℕ} {k : Node} (h : NamedNode T a n) (e : k ≡ node_at a n) where
  -- The formula at a node, and at its children.
  pub written_is : written_at a n ≡ text_of k (written_at a)
  written_is = text_step k n h.stands (omega arith) (sym e)

  children : ChildrenBefore k n
  children = right_step k n h.stands (omega arith) (sym e)

  child : (x : ℕ) → x < n → Named (name_count T) (written_at a x) → NamedNode T a x
  child x l m = record { stands = arena_fewer _ (omega arith) h.stands; named = m }

  pub named_parts : NamedParts T a k
  named_parts = go k children (subst (Named (name_count T)) written_is h.named)
    where
      go : (j : Node) → ChildrenBefore j n → Named (name_count T) (text_of j (written_at a)) → NamedParts T a j
      go (Name x) b m = m
      go (Deny x) b m = child x b m
      go (Pair sign x y) b m = (child x b.0 m.0, child y b.1 m.1)
      go (Time always x first more) b m = child x b.0 m
      go (Keep since x y row) b m = (child x b.0 m.0, child y b.1 m.1)

  -- Its size.
  pub weight_is : weight (written_at a n) ≡ weight (text_of k (written_at a))
  weight_is = ap weight written_is

  -- Its text, with parentheses where they are needed: r is its rank.
  pub part_of_lem : (names : List (List ℕ)) (most : ℕ) {r : ℕ} → ((f : ℕ → Written) → r ≡ rank (part_of (text_of k f)))
      → part_text names most (written_at a n) ≡ paren_text (ltb most r) (byte "(") ++ (bare_text names (text_of k (written_at a)) ++ paren_text (ltb most r) (byte ")"))
  part_of_lem names most {r} ranked = rw written_is (part_parts names most (text_of k (written_at a)) (ltb most r) (ap (ltb most) (ranked (written_at a))))

-- A node that is known: its text, its size and its children.
module _ {node k : Node} (e : node ≡ k) where
  pub of_node : (names : List (List ℕ)) (f : ℕ → Written) → bare_text names (text_of node f) ≡ bare_text names (text_of k f)
  of_node names f = ap (λ j. bare_text names (text_of j f)) e

  pub weight_of : (f : ℕ → Written) → weight (text_of node f) ≡ weight (text_of k f)
  weight_of f = ap (λ j. weight (text_of j f)) e

  pub parts_of : (T a : List ℕ) → NamedParts T a node → NamedParts T a k
  parts_of T a h = subst (NamedParts T a) e h
