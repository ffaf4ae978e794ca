-- The order of a listing, for the sheets that are listed (E8).
-- Assumes nothing. `s` is the sheet's text, and its contents are k.
use mathlib.Core.Path.{◌≡◌}
use mathlib.Core.Bool.{true}
use mathlib.Core.List.{List}
use Prim.Native.Nat.{ℕ}
use Rattle.read_names.specs.EndNumbers.{well_ended}
use Rattle.read_head.proofs.DeclaredNames.{Declarable, head_names}
use Rattle.read_sheet.specs.Sheet.{Contents}
use Rattle.read_sheet.proofs.Wholes.{sheet_head}
use Rattle.open_sheet.specs.Results.{accepted}
use Rattle.open_sheet.specs.SheetIn.{sheet_in, names_in}
use Rattle.open_table.proofs.Tables.{in_sheet}
use Rattle.spec_tilco.proofs.Lists.{all_at}
use Rattle.list_order.specs.Order.{StrictTotal, in_order_lem, Ordered}
use Rattle.list_order.proofs.StrictOrder.{irreflexive, transitive, total}
use Rattle.list_order.proofs.Sorting.{in_order}

module _ (s : List ℕ) {k : Contents} (e : sheet_in s ≡ accepted k) where
  pub names_declarable : Declarable (names_in s k)
  names_declarable = head_names s (sheet_head s (in_sheet s e).reads).2

  -- On the declared names the order is strict and total,
  pub declared_order : StrictTotal (names_in s k)
  declared_order =
      let ended = all_at (λ w. well_ended w ≡ true) (names_in s k) names_declarable.ended in
      record { strict = irreflexive; transitive = transitive; total = λ v w i j. total v w (ended v i) (ended w j) }

  -- and a listing has each signal once, in that order.
  pub listing_order : Ordered (names_in s k) (in_order_lem (names_in s k))
  listing_order = in_order (names_in s k) names_declarable.ended names_declarable.differ
