-- An operation's own buffers before its sheet is opened.
-- Assumes nothing. `names` is for the index of the names, B for the row codes, `tops` for the top rows.
use Rattle.std.specs.Prelude.{List, ℕ}
use Rattle.read_head.specs.SheetHead.{NoNames}
use Rattle.lower_sheet.specs.SheetRows.{Lent}

-- There is room for every name, row and top, with no name and no row in it yet.
pub record Fresh (names B tops : List ℕ) : Type 0 where
  pub unnamed : NoNames names
  pub room : Lent B tops
