-- What a visit to an item of work does, also told by the row's node, and how the list is kept. Assumes nothing.
-- n is how many words a row has for each value, B the row codes, T the table and D the list before, T' and D' after. A number that tells of a change
-- is 0 if there is none.
use Rattle.std.specs.Prelude.{◌≡◌, Bool, List, ◌⊎◌, ℕ, ◌+◌, ◌/◌, ◌≤◌, ◌<◌}
use Rattle.lower_rows.specs.RowCodes.{row_at}
use Rattle.spec_tilco.specs.Inference.{Node, look, Program, node, mark, Marks}
use Rattle.spec_tilco.specs.Table.{Stands}
use Rattle.close_rules.specs.Codes.{Codes}
use Rattle.table_words.specs.WordTicks.{Sides, Bits, Joins, Tells}
use Rattle.close_rules.specs.Settled.{SettledTo, Rests, SameWord}
use Rattle.close_rules.specs.Effects.{Infers, ChangedWord, Gathers}
use Rattle.close_list.specs.Items.{OnList, NoItem, OneItem, Keeps, Queues, ItemsOf, ParentsAt}

-- A visit to item (r, q) takes nothing off the list, and what is not on it, but for that item, rests on no word that changed.
pub record QueuesChanges (count : ℕ) (B : List ℕ) (n r q : ℕ) (T T' D D' : List ℕ) : Type 0 where
  pub keeps : Keeps D D'
  pub noted : (s p : ℕ) → s < count → p < n → (OnList count D' s p → ⊥) → (OneItem r q s p → ⊥) → (x w : ℕ) → Rests (row_at B s) s p x w → SameWord n T T' x w

-- A visit to item (r, q) infers marks, the row is settled there, where what a look gives its child is among C, and the list heeds what changed; if nothing
-- did the list is the same too.
pub record Visited (count : ℕ) (B : List ℕ) (n : ℕ) (P : Program) (W r q : ℕ) (C : Marks) (T T' D D' : List ℕ) (changed : ℕ) : Type 0 where
  pub infers : Infers n P W T T'
  pub tells : Tells T T' changed
  pub same_list : changed ≡ 0 → D' ≡ D
  pub settled : SettledTo C q W (Stands n T') r (node P r)
  pub heeds : QueuesChanges count B n r q T T' D D'

-- The same for every program with these rows; past them nothing changes.
pub record Visits (count : ℕ) (B : List ℕ) (r q W n : ℕ) (T T' D D' : List ℕ) : Type 0 where
  pub changed : ℕ
  pub each : (P : Program) → Codes P count B → Visited count B n P W r q (Stands n T') T T' D D' changed
  pub past : count ≤ r → changed ≡ 0

-- The same for every program in which row r is the node d, as its word says.
pub record VisitsNode (d : Node) (count : ℕ) (B : List ℕ) (r q W n : ℕ) (T T' D D' : List ℕ) : Type 0 where
  pub changed : ℕ
  pub each : (P : Program) → node P r ≡ d → row_at B r ≡ d → Visited count B n P W r q (Stands n T') T T' D D' changed

-- The same where row r looks at row c with the offset k, and what it gives c is gathered: G before and G' after.
pub record VisitsLook (k c count : ℕ) (B : List ℕ) (r q W n : ℕ) (G G' : Marks) (T T' D D' : List ℕ) : Type 0 where
  pub changed : ℕ
  pub each : (P : Program) → node P r ≡ look k c → row_at B r ≡ look k c → Visited count B n P W r q G' T T' D D' changed × Gathers P W (Stands n T) G G'

-- Nothing is taken off the list, and every item but those of E that rests on the word of a mark among A is on it; if nothing changed it is the same.
pub record QueuesFor (E : ℕ → ℕ → Type 0) (count : ℕ) (B : List ℕ) (n : ℕ) (A : Marks) (D D' : List ℕ) (changed : ℕ) : Type 0 where
  pub keeps : Keeps D D'
  pub noted : (x t : ℕ) (v : Bool) → A (mark x t v) → (s p : ℕ) → s < count → p < n → (E s p → ⊥) → Rests (row_at B s) s p x (t / 64) → OnList count D' s p
  pub still : changed ≡ 0 → D' ≡ D

-- Word q of row x was joined with the ticks v of value u and w of the other value, and every item that rests on it is on the list if it changed.
pub record StoresWord (count : ℕ) (B : List ℕ) (n q x : ℕ) (u : Bool) (v w : ℕ) (T T' D D' : List ℕ) : Type 0 where
  pub changed : ℕ
  pub joins : Joins n (Sides x u q (Bits v) (Bits w)) T T' changed
  pub notes : QueuesFor NoItem count B n (ChangedWord x q changed) D D' changed

-- The bits Y are set if something changed, and else the list is the same.
pub record QueuesIf (Y : ℕ → ℕ → Type 0) (D D' : List ℕ) (changed : ℕ) : Type 0 where
  pub enters : Queues (λ i y. (0 < changed) × Y i y) D D'
  pub still : changed ≡ 0 → D' ≡ D

-- The items that a look's row x has on the list when its word p changed: its parents' at that word, and its own before word m.
abbrev pub LookItems : ℕ → List ℕ → List ℕ → ℕ → ℕ → ℕ → ℕ → ℕ → ℕ → Type 0
LookItems stride H N n x p m i y = ParentsAt stride H N x p i y ⊎ ItemsOf stride x (λ q. (q < n) × (q + 1 ≡ m)) i y
