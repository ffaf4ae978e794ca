-- What the functions that close a table require together. Assumes nothing.
-- count is how many rows there are, n how many words a row has for each value, W the window; B has the row codes, H and N have the lists of parents, D is the
-- list of work and T the table.
use Rattle.std.specs.Prelude.{List, ℕ}
use Rattle.spec_tilco.specs.Table.{Stands, Inside}
use Rattle.close_rules.specs.Codes.{Coded}
use Rattle.close_rules.specs.Effects.{TableFits}
use Rattle.close_parents.specs.Links.{Linked}
use Rattle.close_list.specs.Items.{ListFits}
use Rattle.close_list.specs.declared.Closing.{Closing}

-- Items can be put on the list: the row codes are a program's, the lists of parents are theirs, and the list has a bit for every item.
pub record Queueable (count n : ℕ) (B H N D : List ℕ) : Type 0 where
  pub coded : Coded count B
  pub linked : Linked count B H N
  pub roomy : ListFits count n D

-- Items can be visited: they can be put on the list, the table has the rows, and no mark is outside the window.
pub record Workable (count n W : ℕ) (B H N D T : List ℕ) : Type 0 where
  pub coded : Coded count B
  pub linked : Linked count B H N
  pub roomy : ListFits count n D
  pub sized : TableFits n count W T
  pub inside : Inside W (Stands n T)

-- The table can be closed: the same, where there are no lists of parents yet.
pub record Closable (count n W : ℕ) (B D T : List ℕ) : Type 0 where
  pub coded : Coded count B
  pub roomy : ListFits count n D
  pub sized : TableFits n count W T
  pub inside : Inside W (Stands n T)

-- The same of what stays while a table is closed.
abbrev pub CanQueue : Closing → ℕ → List ℕ → Type 0
CanQueue c n D = Queueable c.count n c.rows.now c.heads.now c.nexts.now D

abbrev pub CanWork : Closing → ℕ → List ℕ → List ℕ → Type 0
CanWork c n D T = Workable c.count n c.window c.rows.now c.heads.now c.nexts.now D T
