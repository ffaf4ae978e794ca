-- What is required together, handed on: to a function that requires less, and after a change of the table or the list. Assumes nothing.
use mathlib.Core.Path.{◌≡◌}
use mathlib.Core.List.{List}
use Prim.Native.Nat.{ℕ, ◌<◌}
use lib.ListN.{length}
use Rattle.spec_tilco.specs.Inference.{Program}
use Rattle.table_words.specs.WordTicks.{HasRow}
use Rattle.close_rules.specs.Effects.{Infers}
use Rattle.close_rules.proofs.Decoding.{has_row, sized_as}
use Rattle.close_rules.proofs.Inferring.{infers_inside}
use Rattle.close_parents.specs.Links.{Linked}
use Rattle.close_list.specs.Workable.{Queueable, Workable, Closable}
use Rattle.close_list.proofs.Queueing.{roomy_as}

-- The list kept its length.
pub queueable_as : {count n : ℕ} {B H N D D' : List ℕ} → length D' ≡ length D → Queueable count n B H N D → Queueable count n B H N D'
queueable_as e k = record { coded = k.coded; linked = k.linked; roomy = roomy_as e k.roomy }

-- The lists of parents are made.
pub with_lists : {count n W : ℕ} {B H N D T : List ℕ} → Linked count B H N → Closable count n W B D T → Workable count n W B H N D T
with_lists l c = record { coded = c.coded; linked = l; roomy = c.roomy; sized = c.sized; inside = c.inside }

module _ {count n W : ℕ} {B H N D T : List ℕ} (k : Workable count n W B H N D T) where
  pub queueable : Queueable count n B H N D
  queueable = record { coded = k.coded; linked = k.linked; roomy = k.roomy }

  pub closable : Closable count n W B D T
  closable = record { coded = k.coded; roomy = k.roomy; sized = k.sized; inside = k.inside }

  pub row_there : (x : ℕ) → x < count → HasRow n T x
  row_there x l = has_row n count T x k.sized.long l

  -- The list kept its length, and inference led to the table.
  pub workable_after : {P : Program} {D' T' : List ℕ} → length D' ≡ length D → Infers n P W T T' → Workable count n W B H N D' T'
  workable_after e f = record {
    coded = k.coded;
    linked = k.linked;
    roomy = roomy_as e k.roomy;
    sized = sized_as f.size k.sized;
    inside = infers_inside f k.inside;
  }
