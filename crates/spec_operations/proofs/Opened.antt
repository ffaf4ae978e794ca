-- With the sheet and the table at hand: what adding and asking need of them.
-- Assumes nothing.
use mathlib.Core.Path.{◌≡◌, sym, ap, ◌∙◌, subst}
use mathlib.Core.List.{List}
use Prim.Native.Nat.{ℕ, ◌*◌, ◌^◌, ◌≤◌, ◌<◌}
use native.Mathlib.Nat.{mul-le-mul_right}
use native.Mathlib.Omega.{arith}
use lib.ListN.{length}
use Rattle.spec_limits.specs.Limits.{most_ticks, most_signals, most_rows}
use Rattle.spec_tilco.specs.Table.{words, Stands, table_words, Inside}
use Rattle.spec_tilco.proofs.Order.{row_count}
use Rattle.read_sheet.specs.Sheet.{Contents, meant}
use Rattle.open_sheet.specs.Results.{accepted}
use Rattle.open_sheet.specs.SheetIn.{sheet_in}
use Rattle.open_table.specs.Opens.{Opens}
use Rattle.open_sheet.specs.OpenedSheet.{OpenedSheet}
use Rattle.open_table.specs.OpenedTable.{OpenedTable}
use Rattle.open_table.specs.Opens.Opens.{both}
use Rattle.open_table.proofs.Tables.{InSheet, in_sheet, RowWords, row_words, table_most}

-- What an opened table has.
pub record Fitting (s T : List ℕ) (k : Contents) : Type 0 where
  pub holds : sheet_in s ≡ accepted k
  pub long : length T ≡ table_words (meant k)
  pub inside : Inside k.window (Stands (words k.window) T)

pub fitting : {s T : List ℕ} {k : Contents} → Opens s T (accepted k) → Fitting s T k
fitting (both e l i) = record { holds = e; long = l; inside = i }

module _ {s T places B tops : List ℕ} {w t count : ℕ} (h : OpenedTable s T places B tops w t count) (n : ℕ) (e : n ≡ words w) where
  abbrev k : OpenedSheet s places B tops w t count
  k = h.sheet

  abbrev c : Contents
  c = k.contents

  pub known : InSheet s c
  known = in_sheet s k.holds

  lent : Fitting s T c
  lent = fitting h.table

  -- What is said of the numbers at hand is said of the contents, and the other way.
  pub to_contents : (F : List ℕ → ℕ → ℕ → Type 0) → F places w n → F c.places c.window (words c.window)
  to_contents F x =
      subst (λ (p : List ℕ). F p c.window (words c.window)) k.names_are
      (subst (λ (v : ℕ). F places v (words v)) k.window_is (subst (F places w) e x))

  of_contents : (F : List ℕ → ℕ → ℕ → Type 0) → F c.places c.window (words c.window) → F places w n
  of_contents F x =
      subst (F places w) (sym e)
      (subst (λ (v : ℕ). F places v (words v)) (sym k.window_is) (subst (λ (p : List ℕ). F p c.window (words c.window)) (sym k.names_are) x))

  pub some_window : (1 ≤ w) × (w ≤ most_ticks)
  some_window = (omega (arith, known.sizes.window_low, k.window_is), omega (arith, known.sizes.window_high, k.window_is))

  pub some_words : RowWords w n
  some_words = row_words some_window.0 some_window.1 e

  pub table_length : length T ≡ 2 * count * n
  table_length = of_contents (λ p v m. length T ≡ 2 * count * m) (lent.long ∙ ap (λ (i : ℕ). 2 * i * words c.window) (sym k.rows))

  pub table_inside : Inside w (Stands n T)
  table_inside = of_contents (λ p v m. Inside v (Stands m T)) lent.inside

  -- Each declared signal has a row.
  pub signals_few : (length places ≤ most_signals) × (length places ≤ count) × (count ≤ most_rows)
  signals_few =
      let p : length places ≡ length c.places = ap length k.names_are in
      (omega (arith, known.sizes.signals_high), omega (arith, row_count (meant c), k.rows), omega (arith, known.rows, k.rows))

  pub signals_fit : (2 * length places * n ≤ length T) × (2 * length places * n < 2 ^ 32)
  signals_fit =
      let b : 2 * length places * n ≤ 2 * count * n = mul-le-mul_right n (omega (arith, signals_few.1)) in
      (omega (arith, table_length), omega (arith, table_most signals_few.2 some_words.most))
