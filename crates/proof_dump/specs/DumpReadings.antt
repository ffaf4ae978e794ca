-- The readings that stand in a text, which they are, and those that a dump and a table say (E6).
-- Assumes nothing. `s` is the sheet's text, T a table, d a dump; N is how many signals there are, W the window.
use Rattle.std.specs.Prelude.{◌≡◌, Bool, false, ◌↔◌, ℕ, ◌<◌, length}
use mathlib.Core.List.{List, Memᴰ}
use Rattle.spec_tilco.specs.Inference.{Mark, mark, Marks}
use Rattle.spec_tilco.specs.Table.{Standing, ReadMarks}
use Rattle.read_bytes.specs.Read.Read.{got}
use Rattle.read_sheet.specs.Sheet.{Contents, meant}
use Rattle.read_reading.specs.Spans.{Span, span}
use Rattle.open_sheet.specs.SheetIn.{names_in}
use Rattle.write_readings.specs.EntryTexts.{entries_text}
use Rattle.proof_demands.specs.Refusals.{SheetAccepted, TakenUp}
use Rattle.spec_dump.specs.DumpTexts.{Event}
use Rattle.spec_dump.specs.DumpLines.{events}
use Rattle.spec_dump.specs.DumpSigns.{dump_sign, value_sign, ByTick}

-- r is a text of old-form readings, "by tick, then signal", each once: exactly one for each of these marks.
pub record ReadingsText (names : List (List ℕ)) (P : Marks) (r : List ℕ) : Type 0 where
  pub list : List Span
  pub text : r ≡ entries_text false names list
  pub order : ByTick list
  pub single : (e : Span) → Memᴰ e list → e.first ≡ e.last
  pub exactly : (x t : ℕ) (v : Bool) → Memᴰ (span x v t t) list ↔ P (mark x t v)

-- "The settled values": the marks of declared signals at ticks of the window that stand in the table.
abbrev pub Settled : List ℕ → Contents → Marks
Settled T k (mark x t v) = (x < length k.places) × (t < k.window) × Standing (meant k) T (mark x t v)

-- r is the text of a table's settled values.
pub record SettledText (s T r : List ℕ) : Type 0 where
  pub contents : Contents
  pub taken : TakenUp s T contents
  pub settled : ReadingsText (names_in s contents) (Settled T contents) r

-- "Each 0 or 1 at a tick": the marks of the signs that a dump's events say.
abbrev pub Said : List Event → ℕ → ℕ → Marks
Said es N W (mark x t v) = (x < N) × (t < W) × (dump_sign es x t ≡ value_sign v)

-- The dump d is read, and r is the text of its readings.
pub record DumpRead (s d r : List ℕ) : Type 0 where
  pub contents : Contents
  pub list : List Event
  pub sheet : SheetAccepted s contents
  pub reads : events (names_in s contents) contents.window d ≡ got list (length d)
  pub said : ReadingsText (names_in s contents) (Said list (length contents.places) contents.window) r

-- The sheet and the table are accepted, and just these marks stand in the table.
pub record HoldsJust (s T : List ℕ) (k : Contents) (ms : List Mark) : Type 0 where
  pub taken : TakenUp s T k
  pub marks : (m : Mark) → Standing (meant k) T m ↔ ReadMarks ms m

-- The dump d is read, and each signal has the same sign at each tick as in the events es.
pub record SameSigns (s : List ℕ) (k : Contents) (es : List Event) (d : List ℕ) : Type 0 where
  pub list : List Event
  pub reads : events (names_in s k) k.window d ≡ got list (length d)
  pub same : (x t : ℕ) → x < length k.places → t < k.window → dump_sign list x t ≡ dump_sign es x t
