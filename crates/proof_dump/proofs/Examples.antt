-- A dump as it is written, dumps as they are read, and refusals of the reader, by computation.
-- Assumes nothing.
use mathlib.Core.Bool.{Bool, true, false, ◌&&◌}
use mathlib.Core.List.{List, [], ◌∷◌, flatten}
use Prim.Native.Nat.{ℕ}
use Prim.Native.String.{String, ◌++◌}
use lib.Dec.{T, eqb}
use lib.ListN.{get_or}
use Rattle.read_bytes.specs.Read.{Read}
use Rattle.read_bytes.specs.Read.Read.{got, refused as unread}
use Rattle.read_bytes.specs.Bytes.{bytes, byte, peek, name_byte, starts, run, run_at, run_end, every}
use Rattle.read_bytes.specs.Numbers.{decimal, digits, number}
use Rattle.read_names.specs.EndNumbers.{end_digits, is_end_number, number_of, well_ended}
use Rattle.read_names.specs.Spellings.{names_at, same_text_lem, find_name, is_spelled, name_at}
use Rattle.read_lines.specs.Lines.{in_line, line, keyed_at, number_line, ranged_line, name_line, in_turn}
use Rattle.read_head.specs.SheetHead.{signal_line, head}
use Rattle.read_sheet.specs.Sheet.{rules, sheet_of}
use Rattle.write_bytes.specs.Writes.{last_digits, decimal_text}
use Rattle.write_lines.specs.LineTexts.{line_text}
use Rattle.write_readings.specs.EntryTexts.{value_text, entry_text, entries_text}
use Rattle.open_sheet.specs.Results.{Result, accepted, refused}
use Rattle.open_sheet.specs.SheetIn.{fits, sheet_in}
use Rattle.spec_dump.specs.DumpTexts.{Event, time, sign, event_text, events_text, var_key, var_text, vars_text, head_text, dump_text}
use Rattle.spec_dump.specs.DumpLines.{one_of_texts, timescale_line, var_form, var_name, named_var, var_line, var_lines, head_end, head_lines, sign_said, is_sign_line, sign_line, time_line, asked, event_at, events_from, events}
use Rattle.spec_dump.specs.DumpSigns.{sign_at_lem, reading_of, readings_at, sign_readings}
use Rattle.spec_dump.specs.TableSigns.{signs_at, changes_at, changes_from, sign_events}
use Rattle.spec_dump.specs.Dumps.{with_room, readings_text, dump_readings}

-- A sheet, its names, and the lines of a dump up to `#0`, with this timescale and this second name.
abbrev sheet : String
sheet = "window=4\nsignals=2\nsignal=open\nsignal=clear\nrules=0\n"

abbrev names : List (List ℕ)
names = bytes "open" ∷ bytes "clear" ∷ []

abbrev head_of : String → String → String
head_of scale name =
    "$timescale " ++ (scale ++ (" $end\n$scope module sheet $end\n$var wire 1 ! open $end\n$var wire 1 \" " ++ (name ++ " $end\n$upscope $end\n$enddefinitions $end\n#0\n")))

-- ---- writing

-- The signs of both signals, tick by tick.
abbrev signs : ℕ → ℕ → ℕ
signs x t = get_or (get_or (bytes "011x" ∷ bytes "xxx1" ∷ []) x []) t (byte "x")

-- Their dump.
pub example_written : T (same_text_lem (dump_text names (sign_events signs 2 4)) (bytes (head_of "1 s" "clear" ++ "0!\nx\"\n#1\n1!\n#3\nx!\n1\"\n")))
unfolding same_text_lem last_digits decimal_text line_text event_text events_text var_key var_text vars_text head_text dump_text signs_at changes_at changes_from sign_events flatten
example_written = tt

-- ---- reading

-- Another timescale, `z` as `x`, a sign said again, and a time with no sign after it.
abbrev lines : String
lines = "0!\nz\"\n#1\n1!\nx\"\n#2\n1!\n#3\n"

abbrev same_event : Event → Event → Bool
same_event (time t) (time u) = eqb t u
same_event (sign x b) (sign y c) = eqb x y && eqb b c
same_event (time t) (sign y c) = false
same_event (sign x b) (time u) = false

abbrev same_events : List Event → List Event → Bool
same_events [] [] = true
same_events [] (d ∷ ds) = false
same_events (e ∷ es) [] = false
same_events (e ∷ es) (d ∷ ds) = same_event e d && same_events es ds

abbrev are_events : Read (List Event) → List Event → Bool
are_events (got es q) ds = same_events es ds
are_events (unread n p) ds = false

-- Its events.
pub example_events : T (are_events (events names 4 (bytes (head_of "10 ns" "clear" ++ lines)))
    (sign 0 (byte "0") ∷ sign 1 (byte "x") ∷ time 1 ∷ sign 0 (byte "1") ∷ sign 1 (byte "x") ∷ time 2 ∷ sign 0 (byte "1") ∷ time 3 ∷ []))
unfolding peek starts run run_at run_end digits number in_line line keyed_at number_line ranged_line same_text_lem find_name var_key one_of_texts timescale_line var_form var_name named_var var_line var_lines head_end head_lines sign_said is_sign_line sign_line time_line asked event_at events_from events
example_events = tt

-- What is answered: a text, or a refusal at a place.
pub data Told : Type 0 where
  readings : String → Told
  refusal : ℕ → ℕ → Told

pub record Example : Type 0 where
  pub dump : String
  pub told : Told

abbrev case : String → Told → Example
case d o = record { dump = d; told = o }

abbrev is_told : Result (List ℕ) → Told → Bool
is_told (accepted r) (readings t) = same_text_lem r (bytes t)
is_told (refused n p) (refusal m q) = eqb n m && eqb p q
is_told (accepted r) (refusal m q) = false
is_told (refused n p) (readings t) = false

-- The readings of that dump, and a dump of each refusal: a sign missing at `#0`, a time that stands still, signs out of order, a sign twice, no LF at the end, a name in another's
-- place, one that is not declared, a time outside the window, and one reading more than there is room for.
abbrev examples : List Example
examples =
    case (head_of "10 ns" "clear" ++ lines)
    (readings "at=0\nsignal=open\nvalue=0\nat=1\nsignal=open\nvalue=1\nat=2\nsignal=open\nvalue=1\nat=3\nsignal=open\nvalue=1\n") ∷
    case (head_of "10 ns" "clear" ++ "0!\n#1\n") (refusal 22 137) ∷
    case (head_of "10 ns" "clear" ++ "0!\nx\"\n#2\n1!\n#2\n") (refusal 22 146) ∷
    case (head_of "10 ns" "clear" ++ "0!\nx\"\n#1\n1\"\n1!\n") (refusal 22 146) ∷
    case (head_of "10 ns" "clear" ++ "0!\nx\"\n#1\n1!\n0!\n") (refusal 22 146) ∷
    case (head_of "10 ns" "clear" ++ "0!\nx\"\n#1") (refusal 22 140) ∷
    case (head_of "10 ns" "open" ++ "0!\nx\"\n") (refusal 22 71) ∷
    case (head_of "10 ns" "shut" ++ "0!\nx\"\n") (refusal 12 85) ∷
    case (head_of "10 ns" "clear" ++ "0!\nx\"\n#4\n") (refusal 13 141) ∷
    case (head_of "10 ns" "clear" ++ "0!\n1\"\n") (refusal 20 0) ∷
    []

abbrev all_told : List Example → Bool
all_told [] = true
all_told (e ∷ es) = is_told (dump_readings (bytes sheet) (bytes e.dump) 200) e.told && all_told es

-- Each of them is.
pub examples_read : T (all_told examples)
unfolding peek name_byte starts run run_at run_end every decimal digits number end_digits is_end_number number_of well_ended names_at same_text_lem find_name is_spelled name_at in_line line keyed_at number_line ranged_line name_line in_turn signal_line head rules sheet_of last_digits decimal_text line_text value_text entry_text entries_text flatten fits sheet_in var_key one_of_texts timescale_line var_form var_name named_var var_line var_lines head_end head_lines sign_said is_sign_line sign_line time_line asked event_at events_from events sign_at_lem reading_of readings_at sign_readings with_room readings_text dump_readings
examples_read = tt
