-- The sheet that a move works with.
-- Assumes nothing.
use Rattle.std.specs.Prelude.{◌≡◌, List, ℕ}
use Rattle.read_sheet.specs.Sheet.{Contents}
use Rattle.open_sheet.specs.Results.{accepted}
use Rattle.open_sheet.specs.SheetIn.{sheet_in}

-- The sheet is accepted, with its names at these places and this window.
pub record Opened (s places : List ℕ) (window : ℕ) : Type 0 where
  pub contents : Contents
  pub holds : sheet_in s ≡ accepted contents
  pub names_are : places ≡ contents.places
  pub window_is : window ≡ contents.window
