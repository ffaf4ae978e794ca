-- The runs of figures one by one, each as calls of add and ask (E1).
-- Assumes nothing. `s` is the sheet's text and k its contents, j the joined readings texts, ns their lengths, T the work table before and U after, m how many records are lent.
use Rattle.std.specs.Prelude.{◌≡◌, false, ℕ, ◌<◌, length}
use mathlib.Core.List.{List, map, Memᴰ}
use Rattle.spec_tilco.specs.Table.{Answer}
use Rattle.read_sheet.specs.Sheet.{Contents}
use Rattle.open_sheet.specs.Results.{accepted}
use Rattle.open_sheet.specs.SheetIn.{names_in, blank}
use Rattle.spec_operations.specs.Gain.{Gain, gain}
use Rattle.spec_operations.specs.Operations.{Adds, Asks}
use Rattle.list_order.specs.Order.{in_order_lem}
use Rattle.spec_figures.specs.declared.Record.{Record}
use Rattle.spec_figures.specs.Records.{Settles, no_tick, Tells}
use Rattle.spec_figures.specs.Texts.{LengthsFit, texts_in}
use Rattle.spec_figures.specs.Figures.{Each, last_or}
use Rattle.proof_figures.specs.FigureCases.{LentRight}

-- A run by itself, "cleared before": what add makes of the sheet's empty table with the text, and what ask answers of that table.
pub record OneRun (s : List ℕ) (k : Contents) : Type 0 where
  pub text : List ℕ
  pub table : List ℕ
  pub gained : Gain
  pub answer : ℕ → ℕ → Answer
  pub adds : Adds s text (blank k) table (accepted gained)
  pub asks : (x t : ℕ) → x < length k.places → t < k.window → Asks s table x t (accepted (answer x t))

-- Runs of the texts in turn: the work table "ends as the last run's closed table (cleared if none)", and the records tell of all of them, signal by signal in the listing's
-- order.
pub record RunByRun (s j ns T U : List ℕ) (m : ℕ) (rs : List Record) : Type 0 where
  pub contents : Contents
  pub right : LentRight s T m contents
  pub lengths : LengthsFit ns (length j)
  pub runs : List (OneRun s contents)
  pub texts_are : map (λ z. z.text) runs ≡ texts_in ns j
  pub ends : U ≡ last_or (blank contents) (map (λ z. z.table) runs)
  pub told : Each (λ x r. Tells contents.window x (map (λ z. z.answer x) runs) r) (in_order_lem (names_in s contents)) rs

-- "The earliest tick settled in any run without a clash, or none": of signal x in these runs.
pub data FirstSettled (s : List ℕ) (k : Contents) (runs : List (OneRun s k)) (x : ℕ) : ℕ → Type 0 where
  settled_at : (t : ℕ) (z : OneRun s k) (new : ℕ) → Memᴰ z runs → z.gained ≡ gain new false → t < k.window → Settles (z.answer x t)
      → ((u : ℕ) (y : OneRun s k) → u < t → Memᴰ y runs → Settles (y.answer x u) → ⊥) → FirstSettled s k runs x t
  settled_never : ((u : ℕ) (y : OneRun s k) → u < k.window → Memᴰ y runs → Settles (y.answer x u) → ⊥) → FirstSettled s k runs x no_tick
