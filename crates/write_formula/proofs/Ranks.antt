-- The rank of a node's formula, and the name of a signal in the index.
-- Assumes nothing.
use mathlib.Core.Path.{◌≡◌, sym, ap, ◌∙◌}
use mathlib.Core.List.{List, []}
use Prim.Native.Nat.{ℕ, ◌+◌, ◌<◌}
use native.Mathlib.Omega.{arith}
use lib.ListN.{get_or, length-drop}
use lib.Seq.{get_or-drop}
use Rattle.read_names.specs.Spellings.{spelling_at}
use Rattle.read_names.proofs.Names.{names_at_lem}
use Rattle.read_index.specs.Index.{links, name_count, places_in, names_in}
use Rattle.read_arena.specs.Nodes.{op_of}
use Rattle.read_arena.specs.NodeRules.{text_of}
use Rattle.read_arena.specs.declared.Node.{Node}
use Rattle.read_arena.specs.declared.Node.TheVariants.{Pair}
use Rattle.read_arena.specs.declared.Sign.{Sign}
use Rattle.spec_tilco.specs.Formula.{Written}
use Rattle.spec_grammar.specs.Grammar.Part.{level}
use Rattle.spec_print.specs.RuleTexts.{rank, part_of}

-- Of a node that is known.
pub ranked : {node k : Node} (f : ℕ → Written) → node ≡ k → rank (part_of (text_of k f)) ≡ rank (part_of (text_of node f))
ranked f e = ap (λ n. rank (part_of (text_of n f))) (sym e)

pub level_rank : {node : Node} {sign : Sign} {x y r : ℕ} (f : ℕ → Written) → node ≡ Pair sign x y → r ≡ rank (level (op_of sign)) → r ≡ rank (part_of (text_of node f))
level_rank f e h = h ∙ ranked f e

-- A declared name is spelled at its place.
pub name_spelled : (s T : List ℕ) (x : ℕ) → x < name_count T → get_or (names_in s T) x [] ≡ spelling_at s (get_or T (links + x) 0)
name_spelled s T x h = names_at_lem s (places_in T) x (simp length-drop (omega arith)) ∙ ap (spelling_at s) (get_or-drop links T x 0)
