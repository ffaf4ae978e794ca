-- What comes before a reading or a question: the sheet and the lent table (01, "Numbers of refusal": 1 to 9, 15 and 16, in this order).
-- Assumes nothing. `s` is the sheet's text, T the lent table.
use Rattle.std.specs.Prelude.{◌≡◌, List, ℕ, length}
use Rattle.spec_tilco.specs.Table.{Standing, table_words, Inside}
use Rattle.read_sheet.specs.Sheet.{Contents, meant}
use Rattle.open_sheet.specs.Results.{Result, accepted, refused}
use Rattle.open_sheet.specs.SheetIn.{sheet_in}

-- The sheet and the table are accepted, or refused: the sheet; 15; 16.
pub data Opens (s T : List ℕ) : Result Contents → Type 0 where
  both : {k : Contents} → sheet_in s ≡ accepted k → length T ≡ table_words (meant k) → Inside k.window (Standing (meant k) T) → Opens s T (accepted k)
  not_the_sheet : {n p : ℕ} → sheet_in s ≡ refused n p → Opens s T (refused n p)
  not_the_length : {k : Contents} → sheet_in s ≡ accepted k → (length T ≡ table_words (meant k) → ⊥) → Opens s T (refused 15 0)
  not_inside : {k : Contents} → sheet_in s ≡ accepted k → length T ≡ table_words (meant k) → (Inside k.window (Standing (meant k) T) → ⊥) → Opens s T (refused 16 0)
