-- How long a listing with captions is at the most, so that its places can be counted and a buffer with room for it can be lent.
-- Assumes nothing.
use mathlib.Core.Path.{◌≡◌, sym, subst}
use mathlib.Core.Bool.{Bool}
use mathlib.Core.List.{List}
use Prim.Native.Nat.{ℕ, ◌<◌, ◌≤◌}
use native.Mathlib.Omega.{arith}
use lib.ListN.{length, length-append}
use Rattle.spec_limits.specs.Limits.{most_ticks, most_signals, most_caption_bytes, most_captioned}
use Rattle.spec_tilco.specs.Lists.{All}
use Rattle.spec_tilco.specs.Table.{Answer}
use Rattle.list_order.specs.Order.{in_order_lem}
use Rattle.list_order.proofs.Sorting.{order_long, order_within}
use Rattle.list_signals.specs.Signals.{signals_text}
use Rattle.list_table.specs.Listing.{head_text, refusal_text}
use Rattle.list_table.proofs.Lengths.{signals_most, head_most, refusal_most as refusal_short}
use Rattle.list_captioned.specs.ShownListing.{shown_listing}

-- A listing fits the listing's buffer,
pub listing_most : (names shown : List (List ℕ)) (W rows facts : ℕ) (clash : Bool) (f : ℕ → ℕ → Answer)
    → All (λ w. length w ≤ most_caption_bytes) shown → length shown ≡ length names → length names ≤ most_signals → W ≤ most_ticks → length (shown_listing names shown W rows facts clash f) ≤ most_captioned
unfolding shown_listing
listing_most names shown W rows facts clash f a e n w =
    let h = head_most rows facts clash in
    let l = signals_most most_caption_bytes W f shown (in_order_lem names) w a (subst (λ k. All (λ x. x < k) (in_order_lem names)) (sym e) (order_within names)) in
    omega (arith, length-append (head_text rows facts clash) (signals_text W f shown (in_order_lem names)), order_long names)

-- and so does a refusal's.
pub refusal_most : (number place : ℕ) → length (refusal_text number place) ≤ most_captioned
refusal_most number place = omega (arith, refusal_short number place)
