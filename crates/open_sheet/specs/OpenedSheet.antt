-- What opening a sheet leaves in the operation's own buffers.
-- Assumes nothing. `s` is the sheet's text, `places` the places of the names, B the row codes.
use Rattle.std.specs.Prelude.{◌≡◌, List, ℕ, ◌≤◌, length, Result, Ok, Err}
use Rattle.spec_tilco.specs.Lowering.{program, row_count_lem}
use Rattle.read_head.specs.SheetHead.{first_places, NamesPut}
use Rattle.read_sheet.specs.Sheet.{Contents, meant}
use Rattle.close_rules.specs.Codes.{Codes, TopsAre}
use Rattle.open_sheet.specs.declared.Sheet.{Sheet}
use Rattle.spec_refusals.specs.Numbers.{fault_number, Refusal}
use Rattle.open_sheet.specs.Results.{accepted, refused}
use Rattle.open_sheet.specs.SheetIn.{sheet_in}

-- The sheet stands ready: the places of its names, its row codes in B and its t top rows in `tops`.
pub record OpenedSheet (s places B tops : List ℕ) (w t count : ℕ) : Type 0 where
  pub contents : Contents
  pub holds : sheet_in s ≡ accepted contents
  pub window_is : w ≡ contents.window
  pub names_are : places ≡ contents.places
  pub rows : count ≡ row_count_lem (meant contents)
  pub codes : Codes (program (meant contents)) count B
  pub tops_are : TopsAre (program (meant contents)) tops t
  pub few : t ≤ length tops

-- What the answer of the sheet's opening says: its names stand in the index T.
abbrev pub SheetOpens : List ℕ → List ℕ → List ℕ → List ℕ → Result Sheet Refusal → Type 0
SheetOpens s T B tops (Ok z) = NamesPut s T z.signals × OpenedSheet s (first_places z.signals T) B tops z.window z.tops z.count
SheetOpens s T B tops (Err r) = sheet_in s ≡ refused (fault_number r.fault) r.place
