-- A spelling's slot, byte by byte.
-- Assumes nothing.
use mathlib.Core.Path.{◌≡◌, refl, sym, ap, ◌∙◌}
use mathlib.Core.Bool.{true}
use mathlib.Core.List.{List, []}
use Prim.Native.Nat.{ℕ, ◌+◌, ◌*◌, ◌/◌, ◌%◌, ◌<◌}
use native.Mathlib.Omega.{arith}
use lib.ListN.{length, get_or}
use Rattle.read_bytes.specs.Bytes.{name_byte, run_end}
use Rattle.read_names.specs.Spellings.{spelling_at, spelling_end}
use Rattle.read_bytes.proofs.Runs.{run_more, end_more}
use Rattle.read_index.specs.Index.{mixed, slot_of, mixed_numbers, golden, per_slot}
use Rattle.read_index.specs.Finds.{Slotted}

-- The spelling at p is read up to i, and h is mixed from its bytes before i.
pub record Walked (r : List ℕ) (p i h : ℕ) : Type 0 where
  pub ends : spelling_end r p ≡ spelling_end r i
  pub mixes : mixed 0 (spelling_at r p) ≡ mixed h (spelling_at r i)
  pub small : h < mixed_numbers

pub walk_start : (r : List ℕ) (p : ℕ) → Walked r p p 0
walk_start r p = record { ends = refl; mixes = refl; small = omega arith }

module _ {r : List ℕ} {p i h : ℕ} (w : Walked r p i h) where
  pub walk_more : i < length r → name_byte (get_or r i 0) ≡ true → Walked r p (i + 1) ((h + get_or r i 0) * golden % mixed_numbers)
  unfolding mixed
  walk_more l e =
      record {
        ends = w.ends ∙ end_more name_byte r i l e;
        mixes = w.mixes ∙ ap (mixed h) (run_more name_byte r i l e);
        small = omega arith;
      }

  pub walk_end : (j : ℕ) → j ≡ i → spelling_at r i ≡ [] → Slotted r p (j, h / per_slot)
  unfolding run_end mixed slot_of
  walk_end j e n =
      record {
        ends = omega (arith, w.ends, ap length n);
        slot = sym (ap (λ x. x / per_slot) (w.mixes ∙ ap (mixed h) n));
      }
