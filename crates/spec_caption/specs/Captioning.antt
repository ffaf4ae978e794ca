-- What caption answers (E7): the part that is shown of a signal, or a refusal; and the slice that is this part.
-- Assumes nothing. `s` is the sheet's text, c the captions' text, x the signal's number.
use Rattle.std.specs.Prelude.{List, ℕ, ltb, length, get_or, Option, None}
use Rattle.std.specs.Borrow.{Bor}
use Rattle.read_bytes.specs.Read.{Read}
use Rattle.read_bytes.specs.Read.Read.{got, refused as unread}
use Rattle.read_bytes.specs.Bytes.{pick}
use Rattle.read_captions.specs.declared.Part.{Part}
use Rattle.read_captions.specs.Captions.{captions_in}
use Rattle.read_captions.specs.Parts.{shown_part, PartOf, Shows}
use Rattle.read_sheet.specs.Sheet.{Contents}
use Rattle.open_sheet.specs.Results.{Result, accepted, refused}
use Rattle.open_sheet.specs.SheetIn.{sheet_in, names_in}

-- What is shown of signal x, by the places of the names and the captions as they were read. "Then 17."
abbrev pub part_by : List ℕ → List ℕ → List ℕ → ℕ → Read (List (Option ℕ)) → Result Part
part_by s c places x (got at q) = pick (ltb x (length places)) (λ _. accepted (shown_part s c (get_or places x 0) (get_or at x None))) (refused 17 0)
part_by s c places x (unread n p) = refused n p

-- "After 9, line by line."
abbrev pub part_of : List ℕ → List ℕ → ℕ → Result Contents → Result Part
part_of s c x (accepted k) = part_by s c k.places x (captions_in (names_in s k) c)
part_of s c x (refused n p) = refused n p

-- The part that is shown of signal x, or a refusal.
unfoldable pub caption_part : List ℕ → List ℕ → ℕ → Result Part
caption_part s c x = part_of s c x (sheet_in s)

-- The slice r is that part. "On a refusal the part shown is empty": no byte of the sheet, at its start.
pub data ShowsCaption (s c r : Bor (List ℕ)) : Result Part → Type 0 where
  shown : {a : Part} → Shows s c r a → ShowsCaption s c r (accepted a)
  nothing : {n p : ℕ} → PartOf s 0 0 r → ShowsCaption s c r (refused n p)
