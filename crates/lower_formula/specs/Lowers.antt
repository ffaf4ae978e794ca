-- Formulas of an arena, lowered in a sense.
-- Assumes nothing.
use Rattle.std.specs.Prelude.{Bool, List, ℕ}
use Rattle.spec_tilco.specs.Formula.{Formula, Op}
use Rattle.spec_tilco.specs.Lowering.{BTL, lowered}
use Rattle.read_arena.specs.NodeRules.{form_at}

-- The formula at node n.
abbrev pub lowered_at : List ℕ → Bool → ℕ → BTL
lowered_at a sense n = lowered sense (form_at a n)

-- Two formulas with a sign between them, at the nodes l and r.
abbrev pub pair_at : List ℕ → Op → Bool → ℕ → ℕ → BTL
pair_at a sign sense l r = lowered sense (Formula.pair sign (form_at a l) (form_at a r))
