-- A row buffer that is filled with a signal's row code is blank.
-- Assumes nothing.
use mathlib.Core.Path.{◌≡◌}
use mathlib.Core.Logic.{⊎_elim}
use mathlib.Core.List.{List}
use Prim.Native.Nat.{ℕ}
use native.Mathlib.Omega.{arith}
use lib.ListN.{length, get_or, replicate, get_or-eq_default}
use Rattle.std.proofs.lemmas.List.{get_or-replicate, length-replicate}
use Rattle.spec_ticks.proofs.Bits.{lt_or_ge}
use Rattle.spec_tilco.specs.Inference.{signal}
use Rattle.lower_rows.specs.RowCodes.{row_code, Blank}

pub all_blank : (n : ℕ) (m : List ℕ) → m ≡ replicate n (row_code signal) → Blank m
all_blank n m e i =
    rw e (⊎_elim (λ l. get_or-replicate n i (row_code signal) (row_code signal) l) (λ l. get_or-eq_default (replicate n (row_code signal)) (row_code signal) {n = i} (omega (arith, length-replicate {A = ℕ}))) (lt_or_ge i n))
