-- Calls of add one after the other on one table (demand 3: cuts, order, repeats, refused calls among them).
-- Assumes nothing.
use Rattle.std.specs.Prelude.{List, [], ◌∷◌, ◌++◌, ℕ, ◌-◌}
use Rattle.spec_tilco.specs.Lists.{total}
use Rattle.spec_tilco.specs.Formula.{Sheet}
use Rattle.spec_tilco.specs.Inference.{Mark}
use Rattle.spec_tilco.specs.Table.{facts_of, Added}

-- A call of add: accepted, with its readings, or refused.
pub data Call : Type 0 where
  add : List Mark → Call
  refused : Call

-- Calls lead from the table T to the table U. Each accepted one reports its new facts, "the facts after less the facts before"; a refused
-- one changes no mark.
pub data Run (s : Sheet) : List ℕ → List Call → List ℕ → List ℕ → Type 0 where
  done : {T : List ℕ} → Run s T [] T []
  call : {T T' U : List ℕ} {R : List Mark} {cs : List Call} {ns : List ℕ} → Added s T R T' → Run s T' cs U ns
      → Run s T (add R ∷ cs) U ((facts_of s T' - facts_of s T) ∷ ns)
  refuse : {T U : List ℕ} {cs : List Call} {ns : List ℕ} → Run s T cs U ns → Run s T (refused ∷ cs) U ns

-- All the readings of the accepted calls.
abbrev pub readings_of : List Call → List Mark
readings_of [] = []
readings_of (add R ∷ cs) = R ++ readings_of cs
readings_of (refused ∷ cs) = readings_of cs

-- At least one call is accepted.
abbrev pub Some : List Call → Type 0
Some [] = ⊥
Some (add R ∷ cs) = Unit {0}
Some (refused ∷ cs) = Some cs

-- All the new facts reported.
abbrev pub reported : List ℕ → ℕ
reported = total (λ n. n)
