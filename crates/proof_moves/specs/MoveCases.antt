-- The moves' refusals by their listed cases in their order, and a text that is in order already (E5).
-- Assumes nothing. `spans` tells which move, `s` is the sheet's text, r the readings' text, O the lent buffer; n is the number and p the place.
use Rattle.std.specs.Prelude.{◌≡◌, Bool, List, [], ◌⊎◌, ℕ, ◌<◌, ◌≤◌, length}
use Rattle.spec_limits.specs.Limits.{most_bytes}
use Rattle.read_bytes.specs.Read.Read.{got}
use Rattle.read_sheet.specs.Sheet.{Contents}
use Rattle.read_reading.specs.Spans.{Span}
use Rattle.read_readings.specs.Readings.{in_spans, entries}
use Rattle.open_sheet.specs.Results.{accepted}
use Rattle.open_sheet.specs.SheetIn.{sheet_in, names_in}
use Rattle.spec_grammar.specs.ReadingLines.{ReadingsFault}
use Rattle.proof_demands.specs.Refusals.{SheetAccepted, SheetRefused}
use Rattle.spec_moves.specs.InOrder.{InOrder}
use Rattle.spec_moves.specs.Moves.{Written}

-- A move's refusals: the sheet's, "10 and the readings line by line", "last 20, also for output over 32,768 bytes".
pub data MoveRefused (spans : Bool) (s r O : List ℕ) : ℕ → ℕ → Type 0 where
  up_to_nine : {n p : ℕ} → SheetRefused s n p → MoveRefused spans s r O n p
  ten : {k : Contents} → SheetAccepted s k → most_bytes < length r → MoveRefused spans s r O 10 0
  line_by_line : {k : Contents} {n p : ℕ} → SheetAccepted s k → length r ≤ most_bytes → ReadingsFault (names_in s k) k.window r n p → MoveRefused spans s r O n p
  twenty : {t : List ℕ} → Written spans s r t → (most_bytes < length t) ⊎ (length O < length t) → MoveRefused spans s r O 20 0

-- "A merged, sorted text", or one of single readings, each once, in that same order: it is of the form, or empty, and its entries are in order.
pub record Tidy (spans : Bool) (s r : List ℕ) : Type 0 where
  pub contents : Contents
  pub list : List Span
  pub place : ℕ
  pub sheet : sheet_in s ≡ accepted contents
  pub reads : entries (names_in s contents) contents.window r ≡ got list place
  pub form : (r ≡ []) ⊎ (in_spans r ≡ spans)
  pub in_order : InOrder spans list
