-- Rows written part by part are the rows of the whole.
-- Assumes nothing.
use mathlib.Core.Path.{◌≡◌, ap, ◌∙◌}
use mathlib.Core.Bool.{Bool}
use mathlib.Core.List.{List, [], ◌∷◌, map, map-append}
use Prim.Native.Nat.{ℕ, ◌+◌, ◌≤◌}
use lib.ListN.{length, length-map}
use Rattle.spec_tilco.specs.Inference.{gate}
use Rattle.spec_tilco.specs.Lowering.{BTL, join, timed, size, top_of, rows_of}
use Rattle.spec_tilco.proofs.Rows.{length_rows}
use Rattle.lower_rows.specs.RowCodes.{row_code}
use Rattle.lower_rows.specs.RowWrites.{looks, gates, last_gate, WroteRows, Lowers, Spreads}
use Rattle.lower_rows.specs.declared.words.Lowered.{Lowered}
use Rattle.std.specs.Prelude.{Option, Some, None}
use Rattle.lower_rows.proofs.Runs.{fits, and_then_lem, no_room}

-- What is known where a formula's rows fit.
pub record Went (c : BTL) (b : ℕ) (m m₁ : List ℕ) (v : Lowered) : Type 0 where
  pub top : v.row ≡ top_of c b
  pub next : v.used ≡ b + size c
  pub room : v.used ≤ length m
  pub long : length m₁ ≡ length m

pub went : {c : BTL} {b : ℕ} {m m₁ : List ℕ} {v : Lowered} → Lowers c b m m₁ (Some v) → Went c b m m₁ v
unfolding Lowers
went {c} {b} w =
    let R = fits w in
    record { top = R.top; next = R.next ∙ ap (λ (k : ℕ). b + k) (length-map (rows_of c b) row_code ∙ length_rows c b); room = R.room; long = R.long }

-- The first part was tried.
module _ (c : BTL) (b : ℕ) (m m₁ : List ℕ) where
  -- The second was tried too, and their gate.
  module _ (g : Bool) (d : BTL) where
    pub join_full : Lowers c b m m₁ None → Lowers (join g c d) b m m₁ None
    unfolding Lowers
    join_full w = rw map-append (no_room (map row_code (rows_of c b)) _ (top_of c b) _ b m m₁ w)

    module _ (v : Lowered) (w : Lowers c b m m₁ (Some v)) (m₂ : List ℕ) where
      pub join_second_full : Lowers d v.used m₁ m₂ None → Lowers (join g c d) b m m₂ None
      unfolding Lowers
      join_second_full w₂ =
          rw (map-append, map-append, ← (went w).next)
          (and_then_lem (map row_code (rows_of c b)) _ (top_of c b) _ b m m₁ m₂ v None w (no_room (map row_code (rows_of d v.used)) _ (top_of d v.used) _ v.used m₁ m₂ w₂))

      pub join_then : (v₂ : Lowered) (m₃ : List ℕ) (r : Option Lowered) → Lowers d v.used m₁ m₂ (Some v₂)
          → WroteRows (row_code (gate g v.row v₂.row) ∷ []) v₂.used v₂.used m₂ m₃ r → Lowers (join g c d) b m m₃ r
      unfolding Lowers
      join_then v₂ m₃ r w₂ k =
          let R : Went c b m m₁ v = went w in
          let S : Went d v.used m₁ m₂ v₂ = went w₂ in
          rw (map-append, map-append, ← R.next, ← R.top, ← S.top, ← S.next)
          (and_then_lem (map row_code (rows_of c b)) _ (top_of c b) _ b m m₁ m₃ v r w (and_then_lem (map row_code (rows_of d v.used)) _ (top_of d v.used) _ v.used m₁ m₂ m₃ v₂ r w₂ k))

  -- Its looks follow, and their joins.
  module _ (g : Bool) (lo k : ℕ) where
    pub timed_full : Lowers c b m m₁ None → Lowers (timed g lo k c) b m m₁ None
    unfolding Lowers
    timed_full w = rw map-append (no_room (map row_code (rows_of c b)) _ (top_of c b) _ b m m₁ w)

    pub timed_then : (v : Lowered) (m₂ : List ℕ) (r : Option Lowered) → Lowers c b m m₁ (Some v) → Spreads g lo k v.row v.used m₁ m₂ r → Lowers (timed g lo k c) b m m₂ r
    unfolding Lowers Spreads looks gates last_gate
    timed_then v m₂ r w h =
        let R : Went c b m m₁ v = went w in
        rw (map-append row_code (rows_of c b), ← R.next, ← R.top) (and_then_lem (map row_code (rows_of c b)) _ (top_of c b) _ b m m₁ m₂ v r w h)
