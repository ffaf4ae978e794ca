-- What holds of each record so far holds of one more that is put in its words.
-- Assumes nothing.
use mathlib.Core.Path.{◌≡◌, sym, subst}
use mathlib.Core.List.{List}
use Prim.Native.Nat.{ℕ, ◌+◌, ◌<◌}
use native.Mathlib.Decide.{ℕ_discrete}
use native.Mathlib.Omega.{arith}
use Rattle.spec_figures.specs.declared.Record.{Record}
use Rattle.figure_run.specs.RecordWords.{record_in, PutsRecord}

-- What holds of each record before i, and of the one that is put at i, holds of each before i + 1.
pub one_more : (D : ℕ → Record → Type 0) {ws ws' : List ℕ} {i : ℕ} {r : Record}
    → ((j : ℕ) → j < i → D j (record_in ws j)) → PutsRecord i r ws ws' → D i r → (j : ℕ) → j < i + 1 → D j (record_in ws' j)
one_more D {ws} {ws'} {i} {r} f p d j h = go (ℕ_discrete j i)
  where
    go : Dec (j ≡ i) → D j (record_in ws' j)
    go (yes e) = subst (λ (k : ℕ). D k (record_in ws' k)) (sym e) (subst (D i) (sym p.here) d)
    go (no ne) = subst (D j) (sym (p.others j ne)) (f j (omega (arith, ne)))
