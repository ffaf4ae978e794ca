-- The text of a part of a rule, and what its writers ask of the arena.
-- Assumes nothing. T is the index of the declared names, a the arena; `names` are the names' texts.
use Rattle.std.specs.Prelude.{Bool, ℕ, ◌<◌, ltb}
use mathlib.Core.List.{List, [], ◌∷◌, flatten}
use Rattle.read_bytes.specs.Bytes.{pick}
use Rattle.spec_tilco.specs.Formula.{Written, Named}
use Rattle.read_index.specs.Index.{name_count}
use Rattle.read_arena.specs.declared.Node.{Node}
use Rattle.read_arena.specs.declared.Node.TheVariants.{Name, Deny, Pair, Time, Keep}
use Rattle.read_arena.specs.NodeRules.{written_at, NodeIn}
use Rattle.spec_print.specs.RuleTexts.{rank, part_of, enclosed, tokens}

-- The text of a formula without parentheses around it.
unfoldable pub bare_text : List (List ℕ) → Written → List ℕ
bare_text names f = flatten (tokens names f)

-- Its text where a part of a rank up to `most` may stand: in parentheses if it is of a higher one.
unfoldable pub part_text : List (List ℕ) → ℕ → Written → List ℕ
part_text names most f = flatten (enclosed (ltb most (rank (part_of f))) (tokens names f))

-- A parenthesis, or nothing where none is needed.
abbrev pub paren_text : Bool → ℕ → List ℕ
paren_text needed b = pick needed (λ _. b ∷ []) []

-- A formula stands at node n, and each of its names is declared.
pub record NamedNode (T a : List ℕ) (n : ℕ) : Type 0 where
  pub stands : NodeIn a n
  pub named : Named (name_count T) (written_at a n)

-- The same of each child of a node, or of its own name.
abbrev pub NamedParts : List ℕ → List ℕ → Node → Type 0
NamedParts T a (Name x) = x < name_count T
NamedParts T a (Deny x) = NamedNode T a x
NamedParts T a (Pair sign x y) = NamedNode T a x × NamedNode T a y
NamedParts T a (Time always x first more) = NamedNode T a x
NamedParts T a (Keep since x y row) = NamedNode T a x × NamedNode T a y
