-- Two readings texts that say the same, in whatever form each is (E5).
-- Assumes nothing. `s` is the sheet's text, r and u are readings' texts.
use Rattle.std.specs.Prelude.{◌≡◌, List, ℕ, length}
use Rattle.read_bytes.specs.Read.Read.{got}
use Rattle.spec_tilco.specs.Inference.{Mark}
use Rattle.read_sheet.specs.Sheet.{Contents}
use Rattle.read_readings.specs.Readings.{readings}
use Rattle.open_sheet.specs.Results.{accepted}
use Rattle.open_sheet.specs.SheetIn.{sheet_in, names_in}
use Rattle.spec_moves.specs.InOrder.{SameMarks}

-- "The same set of readings": the sheet accepts both texts up to their ends, and a mark is one of the one's exactly if it is one of the other's.
pub record SameReadings (s r u : List ℕ) : Type 0 where
  pub contents : Contents
  pub marks : List Mark
  pub others : List Mark
  pub sheet : sheet_in s ≡ accepted contents
  pub reads : readings (names_in s contents) contents.window r ≡ got marks (length r)
  pub reads_other : readings (names_in s contents) contents.window u ≡ got others (length u)
  pub same : SameMarks others marks
