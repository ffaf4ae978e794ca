-- The list of work: an item is a row and a word of 64 ticks, and is on the list if the row's rules may add something to that word.
-- Assumes nothing. n is how many words a row has for each value, B the row codes, T the table and D the list before, T' and D' after.
use Rattle.std.specs.Prelude.{◌≡◌, Bool, List, ◌⊎◌, ℕ, ◌+◌, ◌*◌, ◌/◌, ◌%◌, ◌≤◌, ◌<◌, length, get_or}
use Rattle.spec_limits.specs.Limits.{most_rows}
use Rattle.spec_ticks.specs.Ticks.{Has}
use Rattle.lower_rows.specs.RowCodes.{row_at}
use Rattle.spec_tilco.specs.Inference.{Node, signal, not_of, gate, look, mark, Marks}
use Rattle.spec_tilco.specs.Table.{Stands}
use Rattle.close_rules.specs.Settled.{SettledTo, Rests}
use Rattle.close_parents.specs.Links.{Reach}

-- The words that a word of ticks has in the list: one bit a row.
abbrev pub per : ℕ → ℕ
per count = (count + 63) / 64

-- Row y's bit in the words of D from place i on is set.
abbrev pub Bit : List ℕ → ℕ → ℕ → Type 0
Bit D i y = Has (get_or D (i + y / 64) 0) (y % 64)

-- Item (r, q) is to do.
abbrev pub OnList : ℕ → List ℕ → ℕ → ℕ → Type 0
OnList count D r q = Bit D (q * per count) r

-- No item, and one.
abbrev pub NoItem : ℕ → ℕ → Type 0
NoItem r q = ⊥

abbrev pub OneItem : ℕ → ℕ → ℕ → ℕ → Type 0
OneItem r q s p = (s ≡ r) × (p ≡ q)

-- The list has a bit for every item, and there are not too many rows.
pub record ListFits (count n : ℕ) (D : List ℕ) : Type 0 where
  pub most : count ≤ most_rows
  pub long : per count * n ≤ length D

-- Nothing is taken off the list, and it keeps its length.
pub record Keeps (D D' : List ℕ) : Type 0 where
  pub size : length D' ≡ length D
  pub kept : (j b : ℕ) → Has (get_or D j 0) b → Has (get_or D' j 0) b

-- Nothing is taken off the list, and for each i and y of Y row y's bit in the words from place i on is set.
pub record Queues (Y : ℕ → ℕ → Type 0) (D D' : List ℕ) : Type 0 where
  pub keeps : Keeps D D'
  pub each : (i y : ℕ) → Y i y → Bit D' i y

-- The items of a row itself that rest on its word p, by its node: word q of them.
abbrev pub OwnItem : Node → ℕ → ℕ → Type 0
OwnItem signal p q = ⊥
OwnItem (not_of y) p q = p ≡ q
OwnItem (gate u a b) p q = p ≡ q
OwnItem (look k c) p q = (q ≡ p + k / 64) ⊎ (q + 1 ≡ p + k / 64)

-- Row x's items at the words Q, where each word of ticks has `stride` words in the list.
abbrev pub ItemsOf : ℕ → ℕ → (ℕ → Type 0) → ℕ → ℕ → Type 0
ItemsOf stride x Q i y = (y ≡ x) × ((q : ℕ) × Q q × (i ≡ q * stride))

-- The items at word p of the rows in row x's list of parents.
abbrev pub ParentsAt : ℕ → List ℕ → List ℕ → ℕ → ℕ → ℕ → ℕ → Type 0
ParentsAt stride H N x p i y = (i ≡ p * stride) × Reach N (get_or H x 0) y

-- Every item that rests on word p of row x is to do.
abbrev pub AllQueued : ℕ → List ℕ → ℕ → List ℕ → ℕ → ℕ → Type 0
AllQueued count B n D x p = (r q : ℕ) → r < count → q < n → Rests (row_at B r) r q x p → OnList count D r q

-- Nothing is taken off the list, and every item that rests on word p of row x is on it.
pub record QueuesResting (count : ℕ) (B : List ℕ) (n x p : ℕ) (D D' : List ℕ) : Type 0 where
  pub keeps : Keeps D D'
  pub noted : AllQueued count B n D' x p

-- Nothing is taken off the list, and every item that rests on a mark in one of the words X is on it: X has rows with a word of theirs.
pub record QueuesMarked (count : ℕ) (B : List ℕ) (n : ℕ) (X : ℕ → ℕ → Type 0) (T D D' : List ℕ) : Type 0 where
  pub keeps : Keeps D D'
  pub noted : (x t : ℕ) (v : Bool) → X x (t / 64) → Stands n T (mark x t v) → AllQueued count B n D' x (t / 64)

-- Every item that is not on the list is settled, where what a look gives its child is among C.
abbrev pub SettledOffListTo : Marks → ℕ → List ℕ → ℕ → ℕ → List ℕ → List ℕ → Type 0
SettledOffListTo C count B W n T D = (r q : ℕ) → r < count → q < n → (OnList count D r q → ⊥) → SettledTo C q W (Stands n T) r (row_at B r)

-- Every item that is not on the list is settled.
abbrev pub SettledOffList : ℕ → List ℕ → ℕ → ℕ → List ℕ → List ℕ → Type 0
SettledOffList count B W n T D = SettledOffListTo (Stands n T) count B W n T D
