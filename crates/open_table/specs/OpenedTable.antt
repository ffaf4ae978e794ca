-- What opening a sheet and a table leaves in the operation's own buffers.
-- Assumes nothing. `s` is the sheet's text, T the lent table, `places` the places of the names, B the row codes.
use Rattle.std.specs.Prelude.{List, ℕ, Result, Ok, Err}
use Rattle.read_head.specs.SheetHead.{first_places, NamesPut}
use Rattle.open_sheet.specs.declared.Sheet.{Sheet}
use Rattle.spec_refusals.specs.Numbers.{fault_number, Refusal}
use Rattle.open_sheet.specs.Results.{accepted, refused}
use Rattle.open_table.specs.Opens.{Opens}
use Rattle.open_sheet.specs.OpenedSheet.{OpenedSheet}

-- The sheet stands ready, and the table is accepted with it.
pub record OpenedTable (s T places B tops : List ℕ) (w t count : ℕ) : Type 0 where
  pub sheet : OpenedSheet s places B tops w t count
  pub table : Opens s T (accepted sheet.contents)

-- What the answer of the sheet's and the table's opening says.
abbrev pub TableOpens : List ℕ → List ℕ → List ℕ → List ℕ → List ℕ → Result Sheet Refusal → Type 0
TableOpens s T names B tops (Ok z) = NamesPut s names z.signals × OpenedTable s T (first_places z.signals names) B tops z.window z.tops z.count
TableOpens s T names B tops (Err r) = Opens s T (refused (fault_number r.fault) r.place)
