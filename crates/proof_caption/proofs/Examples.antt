-- Captions and names that are shown, and texts that are refused, by computation.
-- Assumes nothing.
use mathlib.Core.Bool.{Bool, true, false, ◌&&◌}
use mathlib.Core.List.{List, [], ◌∷◌}
use Prim.Native.Nat.{ℕ}
use Prim.Native.String.{String}
use lib.Dec.{T, eqb}
use lib.ListN.{take, drop}
use Rattle.read_bytes.specs.Bytes.{bytes, peek, name_byte, starts, run, run_at, run_end, every}
use Rattle.read_bytes.specs.Numbers.{decimal, digits, number}
use Rattle.read_names.specs.EndNumbers.{end_digits, is_end_number, number_of, well_ended}
use Rattle.read_names.specs.Spellings.{names_at, same_text_lem, find_name, is_spelled, name_at}
use Rattle.read_lines.specs.Lines.{in_line, line, lf_at, number_line, ranged_line, name_line, in_turn}
use Rattle.read_head.specs.SheetHead.{signal_line, head}
use Rattle.read_sheet.specs.Sheet.{rules, sheet_of}
use Rattle.read_captions.specs.declared.Part.{Part}
use Rattle.read_captions.specs.declared.Part.TheVariants.{InSheet, InCaptions}
use Rattle.read_captions.specs.Captions.{printable, before_equals, caption_form, given_once, caption_line, caption_lines, no_captions, captions_in}
use Rattle.read_captions.specs.Parts.{shown_part}
use Rattle.open_sheet.specs.Results.{Result, accepted, refused}
use Rattle.open_sheet.specs.SheetIn.{fits, sheet_in}
use Rattle.spec_caption.specs.Captioning.{caption_part}

-- A sheet with two signals, whose names stand at 26 and 38.
abbrev sheet : String
sheet = "window=4\nsignals=2\nsignal=open\nsignal=clear\nrules=0\n"

-- What is answered: a text of the captions or of the sheet, at a place; or a refusal at a place.
pub data Told : Type 0 where
  caption : ℕ → String → Told
  name : ℕ → String → Told
  refusal : ℕ → ℕ → Told

abbrev is_told : List ℕ → Result Part → Told → Bool
is_told c (accepted (InCaptions v n)) (caption u t) = eqb v u && same_text_lem (take n (drop v c)) (bytes t)
is_told c (accepted (InCaptions v n)) (name u t) = false
is_told c (accepted (InCaptions v n)) (refusal m q) = false
is_told c (accepted (InSheet v n)) (caption u t) = false
is_told c (accepted (InSheet v n)) (name u t) = eqb v u && same_text_lem (take n (drop v (bytes sheet))) (bytes t)
is_told c (accepted (InSheet v n)) (refusal m q) = false
is_told c (refused n p) (caption u t) = false
is_told c (refused n p) (name u t) = false
is_told c (refused n p) (refusal m q) = eqb n m && eqb p q

pub record Example : Type 0 where
  pub captions : String
  pub signal : ℕ
  pub told : Told

abbrev case : String → ℕ → Told → Example
case c x o = record { captions = c; signal = x; told = o }

-- A caption that holds `=`, and the other signal's name; no captions; one after the other; 40 bytes. Then 41 bytes, none, no `=`, no LF, a tab, an empty line,
-- a name repeated, one that is not declared, a part of one, and a signal that is none, which comes last.
abbrev examples : List Example
examples =
    case "open=Aisle 3 = gate ~\n" 0 (caption 5 "Aisle 3 = gate ~") ∷
    case "open=Aisle 3 = gate ~\n" 1 (name 38 "clear") ∷
    case "" 0 (name 26 "open") ∷
    case "open=a\nclear=b c\n" 1 (caption 13 "b c") ∷
    case "open=0123456789012345678901234567890123456789\n" 0 (caption 5 "0123456789012345678901234567890123456789") ∷
    case "open=01234567890123456789012345678901234567890\n" 0 (refusal 24 0) ∷
    case "open=\n" 0 (refusal 24 0) ∷
    case "open\n" 0 (refusal 24 0) ∷
    case "open=a\nclear=b" 0 (refusal 24 7) ∷
    case "open=a\tb\n" 0 (refusal 24 0) ∷
    case "open=a\n\n" 0 (refusal 24 7) ∷
    case "open=a\nclear=b\nopen=a\n" 0 (refusal 24 15) ∷
    case "open=a\nshut=b\n" 0 (refusal 12 7) ∷
    case "clear =a\n" 0 (refusal 12 0) ∷
    case "open=a\n" 2 (refusal 17 0) ∷
    case "open=a\n=\n" 2 (refusal 24 7) ∷
    []

abbrev all_told : List Example → Bool
all_told [] = true
all_told (e ∷ es) = is_told (bytes e.captions) (caption_part (bytes sheet) (bytes e.captions) e.signal) e.told && all_told es

-- Each of them is.
pub examples_shown : T (all_told examples)
unfolding peek name_byte starts run run_at run_end every decimal digits number end_digits is_end_number number_of well_ended names_at same_text_lem find_name is_spelled name_at in_line line lf_at number_line ranged_line name_line in_turn signal_line head rules sheet_of fits sheet_in printable before_equals caption_form given_once caption_line caption_lines captions_in shown_part caption_part no_captions
examples_shown = tt
