-- The refusals of reading a dump by their listed cases in their order, and what stands in the buffer after it (E6).
-- Assumes nothing. `s` is the sheet's text, d the dump, O the lent buffer before and O' after; n is the number and p the place.
use Rattle.std.specs.Prelude.{◌≡◌, List, ℕ, ◌<◌, length}
use Rattle.read_sheet.specs.Sheet.{Contents}
use Rattle.open_sheet.specs.SheetIn.{names_in}
use Rattle.proof_demands.specs.Refusals.{SheetAccepted, SheetRefused}
use Rattle.spec_dump.specs.DumpTexts.{Event}
use Rattle.spec_dump.specs.Dumps.{readings_text}
use Rattle.proof_dump.specs.WriteCases.{TextIn}
use Rattle.proof_dump.specs.DumpCases.{DumpFault, DumpWhole}

-- The sheet is accepted, all lines of the dump are right, its events are es, and t is the text of their readings.
pub record DumpSays (s d : List ℕ) (k : Contents) (es : List Event) (t : List ℕ) : Type 0 where
  pub sheet : SheetAccepted s k
  pub dump : DumpWhole (names_in s k) k.window d es
  pub text : t ≡ readings_text (names_in s k) k.window es

-- "Read, after 9, 22 for any other or missing line, 12 for a name not declared, 13 for a tick outside the window, last 20."
pub data ReadRefused (s d O : List ℕ) : ℕ → ℕ → Type 0 where
  up_to_nine : {n p : ℕ} → SheetRefused s n p → ReadRefused s d O n p
  line_by_line : {k : Contents} {n p : ℕ} → SheetAccepted s k → DumpFault (names_in s k) k.window d n p → ReadRefused s d O n p
  twenty : {k : Contents} {es : List Event} {t : List ℕ} → DumpSays s d k es t → length O < length t → ReadRefused s d O 20 0

-- The readings' text stands in the buffer.
pub record ReadIn (s d O O' : List ℕ) (n : ℕ) : Type 0 where
  pub contents : Contents
  pub events : List Event
  pub text : List ℕ
  pub is_text : DumpSays s d contents events text
  pub in_buffer : TextIn text O O' n
