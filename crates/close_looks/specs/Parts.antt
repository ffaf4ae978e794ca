-- A part of a visit to a look: its rules between a word of its child and one of its own. Assumes nothing.
-- n is how many words a row has for each value, H and N are the lists of parents, W the window, T the table and D the list before, T' and D' after.
use Rattle.std.specs.Prelude.{Bool, true, false, List, ℕ, ◌+◌, ◌-◌, ◌/◌, ◌≤◌, ◌<◌}
use Rattle.spec_tilco.specs.Inference.{Marks}
use Rattle.table_words.specs.WordTicks.{Ticks, Reads}
use Rattle.close_rules.specs.Settled.{LookTo}
use Rattle.close_rules.specs.Effects.{ChangedWordBefore, Gathered, LookInfers}
use Rattle.close_list.specs.Items.{per}
use Rattle.close_store.specs.Visits.{QueuesIf, LookItems}
use Rattle.table_words.specs.declared.Words.{Words}
use Rattle.close_looks.specs.declared.Child.{Child}

-- The child's word is at hand: its marks of true and of false are as they stand in the table, and so are the window's ticks in it.
pub record Sees (n W : ℕ) (T : List ℕ) (c : Child) : Type 0 where
  pub within : c.q < n
  pub window : Ticks c.q c.here (λ t. t < W)
  pub reads : Reads n T c.q c.row true c.words.this c.words.other

-- The marks gathered for the child's word.
abbrev pub GatheredFor : Child → Words → Marks
GatheredFor c g = Gathered c.row c.q g.this g.other

-- Where a look's rules about the lower ticks of its child's word q (true), or about the upper ones, change its row's word, the other item of the row that rests on
-- that word is the one before this.
abbrev pub next_of : Bool → ℕ → ℕ
next_of true q = q
next_of false q = q + 2

-- Row r looks at row c with the offset k: its rules between c's word q and its own word e - k / 64. What they give c is gathered, G before and G' after;
-- if they changed r's word, its parents' items are on the list, and its own before word m.
pub record LooksFrom (e m count : ℕ) (H N : List ℕ) (r k c q W n : ℕ) (G G' : Marks) (T T' D D' : List ℕ) : Type 0 where
  pub changed : ℕ
  pub steps : LookInfers k c r (ChangedWordBefore r (k / 64) e changed) (λ S. LookTo G' q e W S r k c) G G' W n T T' changed
  pub enters : QueuesIf (LookItems (per count) H N n r (e - k / 64) m) D D' changed
  pub word : 0 < changed → k / 64 ≤ e
