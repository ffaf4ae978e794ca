-- The cases of caption and of the listing with captions (E7): whether a signal's name has a line, and each refusal, "after 9, line by line, 24 for a caption line not of its form or a name repeated, 12 for a name that isn't declared; then 17".
-- Assumes nothing. `s` is the sheet's text, r the readings' text, c the captions' text, x the signal's number; n is the number of the refusal and p its place.
use Rattle.std.specs.Prelude.{◌≡◌, List, [], ℕ, ◌<◌, length, get_or}
use Rattle.read_sheet.specs.Sheet.{Contents}
use Rattle.open_sheet.specs.Results.{accepted, refused}
use Rattle.open_sheet.specs.SheetIn.{sheet_in, names_in}
use Rattle.list_settled.specs.Prints.{Prints}
use Rattle.proof_caption.specs.CaptionTexts.{HasLine, WellCaptioned, FirstFault}

-- The name of signal x.
abbrev pub name_of : List ℕ → Contents → ℕ → List ℕ
name_of s k x = get_or (names_in s k) x []

-- The name w has no line.
abbrev pub NoLine : List ℕ → List ℕ → Type 0
NoLine c w = (l : List ℕ) (v : ℕ) → HasLine c w l v → ⊥

-- A refusal, by its number and place: the sheet's own; that of the first line at fault; then 17, for a number that no signal has.
pub data CaptionRefusal (s c : List ℕ) (x : ℕ) : ℕ → ℕ → Type 0 where
  up_to_nine : {n p : ℕ} → sheet_in s ≡ refused n p → CaptionRefusal s c x n p
  line_by_line : {k : Contents} {n p : ℕ} → sheet_in s ≡ accepted k → FirstFault (names_in s k) c n p → CaptionRefusal s c x n p
  seventeen : {k : Contents} → sheet_in s ≡ accepted k → WellCaptioned (names_in s k) c → (x < length k.places → ⊥) → CaptionRefusal s c x 17 0

-- A refusal of the listing with captions where the table T is lent: the sheet's own; that of the first line at fault; then settle's.
pub data CaptionedRefusal (s r c T : List ℕ) : ℕ → ℕ → Type 0 where
  up_to_nine : {n p : ℕ} → sheet_in s ≡ refused n p → CaptionedRefusal s r c T n p
  line_by_line : {k : Contents} {n p : ℕ} → sheet_in s ≡ accepted k → FirstFault (names_in s k) c n p → CaptionedRefusal s r c T n p
  as_settle : {k : Contents} {n p : ℕ} → sheet_in s ≡ accepted k → WellCaptioned (names_in s k) c → Prints s r T T (refused n p) → CaptionedRefusal s r c T n p
