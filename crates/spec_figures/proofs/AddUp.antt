-- "The four add up to window times runs."
-- Assumes nothing. W is the window, x the signal.
use mathlib.Core.Path.{◌≡◌}
use mathlib.Core.List.{List, [], ◌∷◌}
use Prim.Native.Nat.{ℕ, ◌+◌, ◌*◌}
use native.Mathlib.Nat.{mul-zero, mul-suc}
use native.Mathlib.Omega.{arith}
use lib.ListN.{length}
use Rattle.spec_tilco.specs.Table.{Answer, Unsettled, True, False, Contradiction}
use Rattle.spec_figures.specs.declared.Record.{Record}
use Rattle.spec_figures.specs.Records.{column, Tells}
use Rattle.spec_figures.proofs.Columns.{ticks_add_up}

-- So the columns of all runs come to the window, once a run.
columns_add_up : (W : ℕ) (runs : List (ℕ → Answer)) → column True W runs + column False W runs + column Unsettled W runs + column Contradiction W runs ≡ W * length runs
columns_add_up W [] = omega (arith, mul-zero W)
columns_add_up W (f ∷ runs) = omega (arith, ticks_add_up f W, columns_add_up W runs, mul-suc W (length runs))

-- "The four add up to window times runs."
pub add_up : {W x : ℕ} {runs : List (ℕ → Answer)} {r : Record} → Tells W x runs r → r.held + r.failed + r.unsettled + r.clashed ≡ W * length runs
add_up {W} {runs = runs} d = omega (arith, columns_add_up W runs)
