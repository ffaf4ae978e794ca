-- What the two moves answer and leave in the lent buffer (E5): to spans, and back to single readings.
-- Assumes nothing. `spans` tells which move, `s` is the sheet's text, r the readings' text, O the buffer before and O' after.
use Rattle.std.specs.Prelude.{◌≡◌, Bool, List, ◌++◌, ◌⊎◌, ℕ, ◌<◌, ◌≤◌, length, drop}
use Rattle.spec_limits.specs.Limits.{most_bytes}
use Rattle.read_bytes.specs.Read.Read.{got, refused as unread}
use Rattle.spec_tilco.specs.Inference.{Mark}
use Rattle.read_sheet.specs.Sheet.{Contents}
use Rattle.read_reading.specs.Spans.{Span}
use Rattle.read_readings.specs.Readings.{readings}
use Rattle.open_sheet.specs.Results.{Result, accepted, refused}
use Rattle.open_sheet.specs.SheetIn.{sheet_in, names_in}
use Rattle.write_readings.specs.EntryTexts.{entries_text}
use Rattle.spec_moves.specs.InOrder.{MovedTo}

-- The sheet and the readings are accepted, and t is the text that the move makes of them.
pub record Written (spans : Bool) (s r t : List ℕ) : Type 0 where
  pub contents : Contents
  pub marks : List Mark
  pub place : ℕ
  pub entries : List Span
  pub sheet : sheet_in s ≡ accepted contents
  pub reads : readings (names_in s contents) contents.window r ≡ got marks place
  pub moved : MovedTo spans marks entries
  pub text : t ≡ entries_text spans (names_in s contents) entries

-- What a move answers: the sheet's refusals, "10 and the readings line by line", "last 20, also for output over 32,768 bytes", or the text's length. The
-- text stands at the buffer's first place, and the rest of the buffer stays; a refusal keeps every byte.
pub data Moves (spans : Bool) (s r O O' : List ℕ) : Result ℕ → Type 0 where
  not_opened : {n p : ℕ} → sheet_in s ≡ refused n p → O' ≡ O → Moves spans s r O O' (refused n p)
  not_read : {k : Contents} {n p : ℕ} → sheet_in s ≡ accepted k → readings (names_in s k) k.window r ≡ unread n p → O' ≡ O → Moves spans s r O O' (refused n p)
  no_room : {t : List ℕ} → Written spans s r t → (most_bytes < length t) ⊎ (length O < length t) → O' ≡ O → Moves spans s r O O' (refused 20 0)
  moved : {t : List ℕ} → Written spans s r t → length t ≤ most_bytes → length t ≤ length O → O' ≡ t ++ drop (length t) O → Moves spans s r O O' (accepted (length t))
