-- Formulas lowered in turn, where there may be no room for their rows or for their tops.
-- Assumes nothing.
use mathlib.Core.Path.{◌≡◌, ap, subst}
use mathlib.Core.Logic.{inl, inr, ⊎_elim}
use mathlib.Core.List.{List, []}
use Prim.Native.Nat.{ℕ, ◌+◌, ◌<◌, ◌≤◌}
use native.Mathlib.Omega.{arith}
use lib.ListN.{length, length-append}
use Rattle.spec_limits.specs.Limits.{most_rows}
use Rattle.spec_tilco.specs.Lowering.{BTL, size}
use Rattle.spec_tilco.proofs.Lists.{total_append}
use Rattle.read_bytes.specs.Read.{Read}
use Rattle.read_bytes.specs.Read.Read.{got}
use Rattle.lower_rule.specs.RuleRows.{Buffers, LowersAll, all_lowered_says}
use Rattle.std.specs.Prelude.{Option, Some, None}
use Rattle.lower_rule.specs.declared.rules.InUse.{InUse}
use Rattle.lower_rule.proofs.InTurn.{went_all, all_none, all_then}
use Rattle.lower_lines.specs.InTurn.{Tried, UsedIn, RoomIn, Follows}
use Rattle.lower_lines.specs.InTurn.Tried.{went, full}

-- None is lowered at first.
pub tried_none : (b : ℕ) (B : Buffers) → b ≤ length B.rows → Tried [] b B B (got 0 b)
tried_none b B h = went (omega arith) (all_none b 0 B h)

-- What is lowered is in use.
pub tried_room : {cs : List BTL} {b : ℕ} {B B' : Buffers} {r : Read ℕ} → length B'.rows ≤ most_rows → Tried cs b B B' r → RoomIn B' r
tried_room few (went l w) =
    let g = went_all w in
    record { tops_in = omega (arith, l, g.tops, g.wide); buffer = record { few = few; used_in = omega (arith, g.room, g.long) } }
tried_room few (full o) = tt

-- So it is, where r says what is lowered.
pub room_next : (B : Buffers) {r : Option InUse} {u : InUse} → r ≡ Some u → RoomIn B (all_lowered_says r) → UsedIn B u.tops u.rows
room_next B e h = subst (RoomIn B) (ap all_lowered_says e) h

-- Others follow, ds.
module _ (ds : List BTL) (B B' : Buffers) where
  -- there was no room for some before
  pub follows_full : Follows ds B B' None None
  follows_full cs b B₀ (full o) =
      full (⊎_elim (λ h. inl (omega (arith, h, total_append size cs ds))) (λ h. inr (omega (arith, h, length-append cs ds))) o)

  module _ (u : InUse) where
    -- there is none for their tops
    pub follows_over : length B.tops < u.tops + length ds → Follows ds B B' (Some u) None
    follows_over h cs b B₀ (went l w) =
        let g = went_all w in
        full (inr (omega (arith, h, g.tops, g.wide, length-append cs ds)))

    -- they are tried
    pub follows_more : u.tops + length ds ≤ length B.tops → (r : Option InUse) → LowersAll ds u.rows u.tops B B' r → Follows ds B B' (Some u) r
    unfolding LowersAll
    follows_more h (Some v) o cs b B₀ (went l w) =
        let g = went_all w in
        went (omega (arith, h, g.tops, g.wide, length-append cs ds)) (all_then cs ds b 0 B₀ B u w B' (Some v) o)
    follows_more h None o cs b B₀ (went l w) =
        full (inl (all_then cs ds b 0 B₀ B u w B' None o).over)
