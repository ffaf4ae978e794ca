-- A sheet that was lowered: its rows in use are its row count, the buffer says every row, and there is no room only where it has too many.
-- Assumes, where the buffer says the rows, that every name of the sheet is declared and that the buffer was blank.
use mathlib.Core.Path.{◌≡◌, sym, ap, subst, ◌∙◌}
use mathlib.Core.Logic.{⊎_elim}
use mathlib.Core.List.{List}
use Prim.Native.Nat.{ℕ, ◌≤◌, ◌<◌}
use native.Mathlib.Omega.{arith}
use lib.ListN.{length, get_or-eq_default}
use Rattle.spec_limits.specs.Limits.{most_rows, code_numbers}
use Rattle.spec_ticks.proofs.Bits.{lt_or_ge}
use Rattle.spec_tilco.specs.Formula.{Sheet, signal_rows, formulas, Declared}
use Rattle.spec_tilco.specs.Inference.{Node, signal, not_of, gate, look, node}
use Rattle.spec_tilco.specs.Lowering.{rows_all, lows, program, row_count_lem}
use Rattle.spec_tilco.proofs.Rows.{length_rows_all}
use Rattle.spec_tilco.proofs.Order.{Ordered, row_count, children_before}
use Rattle.lower_rows.specs.RowCodes.{row_at, Blank}
use Rattle.lower_rule.specs.RuleRows.{Buffers, LowersAll}
use Rattle.lower_rule.specs.declared.rules.InUse.{InUse}
use Rattle.std.specs.Prelude.{Some}
use Rattle.lower_rows.proofs.Decoding.{Decodable, row_at_lem}

-- A row's code tells it, where its children stand before it.
coded : (m r : ℕ) (n : Node) → Ordered m r n → r < code_numbers → Decodable n
coded m r signal o h = tt
coded m r (not_of x) o h = omega arith
coded m r (gate u a b) o h = omega arith
coded m r (look k c) o h = omega arith

module _ (s : Sheet) (k : ℕ) (B B' : Buffers) where
  -- The rows in use are all of the sheet's.
  pub sheet_used : (u : InUse) → LowersAll (lows (formulas s)) (signal_rows s) k B B' (Some u) → (u.rows ≡ row_count_lem s) × (row_count_lem s ≤ length B.rows)
  unfolding LowersAll
  sheet_used u w = (omega (arith, w.next, row_count s), omega (arith, w.next, w.room, row_count s))

module _ (s : Sheet) (declared : Declared s) where
  -- Past the last row the row code is a signal's.
  row_coded : row_count_lem s ≤ most_rows → (r : ℕ) → Decodable (node (program s) r)
  row_coded few r =
      ⊎_elim (λ h. coded (signal_rows s) r (node (program s) r) (children_before s declared r) (omega arith))
      (λ h. subst Decodable (sym (get_or-eq_default (program s).rows signal {n = r} h)) tt)
      (lt_or_ge r (row_count_lem s))

  -- The buffer says each row, those of signals and those past the last too.
  pub sheet_row : (k : ℕ) (B B' : Buffers) (u : InUse) → Blank B.rows → LowersAll (lows (formulas s)) (signal_rows s) k B B' (Some u)
      → length B.rows ≤ most_rows → (r : ℕ) → row_at B'.rows r ≡ node (program s) r
  unfolding LowersAll
  sheet_row k B B' u blank w few r =
      ap (λ (l : List ℕ). row_at l r) w.rows
      ∙ row_at_lem (rows_all (lows (formulas s)) (signal_rows s)) B.rows (signal_rows s) blank
      (omega (arith, w.next, w.room, length_rows_all (lows (formulas s)) (signal_rows s)))
      r (row_coded (omega (arith, w.next, w.room, row_count s)) r)
