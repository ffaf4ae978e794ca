-- Readings texts joined in one slice, with a list of their lengths (E1).
-- Assumes nothing. `names` are the declared names in sheet order, W the window.
use Rattle.std.specs.Prelude.{◌≡◌, List, [], ◌∷◌, ℕ, ◌+◌, ◌≤◌, length, take, drop}
use Rattle.spec_limits.specs.Limits.{most_runs}
use Rattle.spec_tilco.specs.Inference.{Mark}
use Rattle.spec_tilco.specs.Lists.{total}
use Rattle.read_bytes.specs.Read.{Read, and_then}
use Rattle.read_bytes.specs.Read.Read.{got, refused}
use Rattle.read_readings.specs.Readings.{readings}

-- "19 for over 64 lengths or a sum that isn't the slice's length": the lengths ns fit a slice of m bytes.
pub record LengthsFit (ns : List ℕ) (m : ℕ) : Type 0 where
  pub few : length ns ≤ most_runs
  pub whole : total (λ n. n) ns ≡ m

-- The texts of these lengths, one after the other in the joined slice.
unfoldable pub texts_in : List ℕ → List ℕ → List (List ℕ)
texts_in [] joined = []
texts_in (n ∷ ns) joined = take n joined ∷ texts_in ns (drop n joined)

-- What a text holds that starts at place p of the joined slice: its places are counted there.
abbrev pub placed_from : {A : Type 0} → ℕ → Read A → Read A
placed_from p (got x q) = got x (p + q)
placed_from p (refused n q) = refused n (p + q)

-- The marks of the texts from place p on: "each text's own [refusal] in turn, its place counted in the joined slice".
unfoldable pub marks_from : List (List ℕ) → ℕ → ℕ → List (List ℕ) → Read (List (List Mark))
marks_from names W p [] = got [] p
marks_from names W p (r ∷ rs) = and_then (placed_from p (readings names W r)) (λ ms q. and_then (marks_from names W (p + length r) rs) (λ mss e. got (ms ∷ mss) e))
