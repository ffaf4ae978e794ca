-- A clash in a word of ticks (01, "The inference rules"). Assumes nothing.
use Rattle.std.specs.Prelude.{◌≡◌, List, ℕ, ◌/◌}
use Rattle.spec_tilco.specs.Inference.{Clash}
use Rattle.spec_tilco.specs.Table.{Stands}

-- A row has both marks at one tick of word q.
abbrev pub ClashIn : ℕ → List ℕ → ℕ → Type 0
ClashIn n T q = (c : Clash (Stands n T)) × (c.tick / 64 ≡ q)
