-- What each public operation answers and leaves in the lent table (01, "What it reads and what it says").
-- Assumes nothing. `s` is the sheet's text, r the readings' text, T the table before and U after.
use Rattle.std.specs.Prelude.{◌≡◌, Bool, true, List, ◌↔◌, ℕ, ◌-◌}
use Rattle.read_bytes.specs.Read.Read.{got, refused as unread}
use Rattle.spec_tilco.specs.Inference.{Mark, mark, Clash}
use Rattle.spec_tilco.specs.Lowering.{row_count_lem}
use Rattle.spec_tilco.specs.Table.{Standing, facts_of, InRange, Added, Answer, Asked}
use Rattle.read_sheet.specs.Sheet.{Contents, meant}
use Rattle.read_readings.specs.Readings.{readings}
use Rattle.open_sheet.specs.Results.{Result, accepted, refused}
use Rattle.spec_operations.specs.Gain.{Gain, gain}
use Rattle.open_sheet.specs.SheetIn.{sheet_in, names_in}
use Rattle.open_table.specs.Opens.{Opens}

-- "check: the sheet's row count, or a refusal."
abbrev pub counted : Result Contents → Result ℕ
counted (accepted k) = accepted (row_count_lem (meant k))
counted (refused n p) = refused n p

-- What check answers.
abbrev pub checked : List ℕ → Result ℕ
checked s = counted (sheet_in s)

-- What add answers and makes of the table: "10 and the readings line by line" after the sheet and the table; a refusal keeps every word.
pub data Adds (s r T U : List ℕ) : Result Gain → Type 0 where
  not_opened : {n p : ℕ} → Opens s T (refused n p) → U ≡ T → Adds s r T U (refused n p)
  not_read : {k : Contents} {n p : ℕ} → Opens s T (accepted k) → readings (names_in s k) k.window r ≡ unread n p → U ≡ T → Adds s r T U (refused n p)
  added : {k : Contents} {ms : List Mark} {q new : ℕ} {clash : Bool} → Opens s T (accepted k) → readings (names_in s k) k.window r ≡ got ms q
      → Added (meant k) T ms U → new ≡ facts_of (meant k) U - facts_of (meant k) T → (clash ≡ true) ↔ Clash (Standing (meant k) U) → Adds s r T U (accepted (gain new clash))

-- What ask answers: 17 after the sheet and the table, else what the table says as it was lent.
pub data Asks (s T : List ℕ) (x t : ℕ) : Result Answer → Type 0 where
  not_opened : {n p : ℕ} → Opens s T (refused n p) → Asks s T x t (refused n p)
  out_of_range : {k : Contents} → Opens s T (accepted k) → (InRange (meant k) (mark x t true) → ⊥) → Asks s T x t (refused 17 0)
  asked : {k : Contents} {a : Answer} → Opens s T (accepted k) → InRange (meant k) (mark x t true) → Asked (Standing (meant k) T) x t a → Asks s T x t (accepted a)
