-- What writing and reading a dump answer and leave in the lent buffer (E6).
-- Assumes nothing. `s` is the sheet's text, T the lent table, d the dump, O the buffer before and O' after.
use Rattle.std.specs.Prelude.{◌≡◌, false, List, ℕ, leb, length}
use Rattle.spec_tilco.specs.Inference.{Clash}
use Rattle.spec_tilco.specs.Table.{Standing, Answer}
use Rattle.read_bytes.specs.Read.{Read}
use Rattle.read_bytes.specs.Read.Read.{got, refused as unread}
use Rattle.read_bytes.specs.Bytes.{pick}
use Rattle.read_sheet.specs.Sheet.{Contents, meant}
use Rattle.open_sheet.specs.Results.{Result, accepted, refused}
use Rattle.open_sheet.specs.SheetIn.{sheet_in, names_in}
use Rattle.open_table.specs.Opens.{Opens}
use Rattle.write_readings.specs.EntryTexts.{entries_text}
use Rattle.list_signals.specs.Signals.{Answers}
use Rattle.spec_operations.specs.TextAnswers.{Gives}
use Rattle.spec_dump.specs.DumpTexts.{Event, dump_text}
use Rattle.spec_dump.specs.DumpLines.{events}
use Rattle.spec_dump.specs.DumpSigns.{dump_sign, sign_readings}
use Rattle.spec_dump.specs.TableSigns.{answer_sign, sign_events}

-- "Last 20."
unfoldable pub with_room : ℕ → List ℕ → Result (List ℕ)
with_room room t = pick (leb (length t) room) (λ _. accepted t) (refused 20 0)

-- The dump of a sheet's table that ask answers by f.
unfoldable pub table_dump : List ℕ → Contents → (ℕ → ℕ → Answer) → List ℕ
table_dump s k f = dump_text (names_in s k) (sign_events (λ x t. answer_sign (f x t)) (length k.places) k.window)

-- What writing a dump promises: "after 16, 23 for a clashing table, then 20". The table is only read.
pub data WritesDump (s T O O' : List ℕ) : Result ℕ → Type 0 where
  not_opened : {n p : ℕ} → Opens s T (refused n p) → O' ≡ O → WritesDump s T O O' (refused n p)
  clashing : {k : Contents} → Opens s T (accepted k) → Clash (Standing (meant k) T) → O' ≡ O → WritesDump s T O O' (refused 23 0)
  written : {k : Contents} {f : ℕ → ℕ → Answer} {a : Result ℕ} → Opens s T (accepted k) → (Clash (Standing (meant k) T) → ⊥)
      → Answers (Standing (meant k) T) (length k.places) k.window f → Gives (with_room (length O) (table_dump s k f)) O O' a → WritesDump s T O O' a

-- The text of the readings that a dump's events say.
unfoldable pub readings_text : List (List ℕ) → ℕ → List Event → List ℕ
readings_text names W es = entries_text false names (sign_readings (dump_sign es) (length names) 0 W)

-- A dump as it was read: its readings, or its refusal.
abbrev pub readings_of : List (List ℕ) → ℕ → ℕ → Read (List Event) → Result (List ℕ)
readings_of names W room (got es q) = with_room room (readings_text names W es)
readings_of names W room (unread n p) = refused n p

-- "After 9", the dump line by line, "last 20".
abbrev pub dump_of : List ℕ → List ℕ → ℕ → Result Contents → Result (List ℕ)
dump_of s d room (accepted k) = readings_of (names_in s k) k.window room (events (names_in s k) k.window d)
dump_of s d room (refused n p) = refused n p

-- The readings of a dump, written into a buffer with so much room, or a refusal.
unfoldable pub dump_readings : List ℕ → List ℕ → ℕ → Result (List ℕ)
dump_readings s d room = dump_of s d room (sheet_in s)

-- What reading a dump promises.
abbrev pub ReadsDump : List ℕ → List ℕ → List ℕ → List ℕ → Result ℕ → Type 0
ReadsDump s d O O' a = Gives (dump_readings s d (length O)) O O' a
