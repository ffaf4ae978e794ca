-- Sheet texts and what they say, by computation: the sheet of P1 (01, "The listing program"), and refusals 2 to 8.
-- Assumes nothing.
use mathlib.Core.Path.{◌≡◌, refl}
use mathlib.Core.Bool.{Bool, true, false, ◌&&◌}
use mathlib.Core.List.{List, [], ◌∷◌}
use Prim.Native.Nat.{ℕ}
use Prim.Native.String.{String, ◌++◌}
use lib.Dec.{T, eqb}
use Rattle.read_bytes.specs.Read.{Read}
use Rattle.read_bytes.specs.Read.Read.{got, refused}
use Rattle.read_bytes.specs.Bytes.{bytes, peek, class_of, name_byte, starts, run, run_at, run_end, every}
use Rattle.read_names.specs.EndNumbers.{end_digits, is_end_number, number_of, well_ended}
use Rattle.read_names.specs.Spellings.{names_at, same_text_lem, find_name, is_spelled, name_at}
use Rattle.read_bytes.specs.Numbers.{decimal, digits, number}
use Rattle.read_lines.specs.Lines.{in_line, line, number_line, ranged_line, name_line, in_turn}
use Rattle.spec_tilco.specs.Formula.{Implies, Written, always}
use Rattle.read_interval.specs.Interval.{signed, end_at, offsets_of, end_after_lem, close_at, comma_at, interval}
use Rattle.read_parts.specs.FormulaText.{declared, times, timed_part, more, level, second, since_until, name_or_keep, plain_part_in, inside, plain_part, rule}
use Rattle.read_head.specs.SheetHead.{signal_line, head}
use Rattle.read_sheet.specs.Sheet.{rule_to, rule_line, rules, Contents, contents, sheet_of}

-- The sheet of P1.
abbrev pub p1_text : List ℕ
p1_text = bytes "window=10\nsignals=3\nsignal=clear2\nsignal=go10\nsignal=open10\nrules=2\nrule=clear2@[-3,0]=>go10\nrule=go10=>open10@[2,2]\n"

-- It is read as window 10, the names' places, and the two rules; it ends at its last byte.
pub p1_says : sheet_of p1_text ≡ got (contents 10 (27 ∷ 41 ∷ 53 ∷ []) (Written.pair Implies (always 61 3 (Written.name 0)) (Written.name 1) ∷ Written.pair Implies (Written.name 1) (always 66 0 (Written.name 2)) ∷ [])) 117
unfolding peek class_of name_byte starts run run_at run_end names_at same_text_lem find_name is_spelled every end_digits decimal is_end_number number_of well_ended name_at digits number in_line line number_line ranged_line name_line in_turn signed end_at offsets_of end_after_lem close_at comma_at interval declared times timed_part more level second since_until name_or_keep plain_part_in inside plain_part rule signal_line head rule_to rule_line rules sheet_of
p1_says = refl

-- A text, and the number and place of its refusal.
record Example : Type 0 where
  text : String
  number : ℕ
  place : ℕ

-- An example of these parts.
abbrev case : String → ℕ → ℕ → Example
case t n p = record { text = t; number = n; place = p }

-- Is it refused so?
abbrev is_refused : Read Contents → ℕ → ℕ → Bool
is_refused (got k q) n p = false
is_refused (refused m x) n p = eqb m n && eqb x p

-- Is each example refused so?
abbrev all_refused : List Example → Bool
all_refused [] = true
all_refused (e ∷ es) = is_refused (sheet_of (bytes e.text)) e.number e.place && all_refused es

-- What stands before the one rule of an example.
abbrev before : String
before = "window=10\nsignals=1\nsignal=a\nrules=1\n"

-- No line at all; a leading zero; a window over 4,096; the next line is missing; a name given twice; a reserved name; an empty rule; a rule that stops short; a name that is not declared; an end over 63; a 33rd ( is open; no lf; bytes after the last line.
abbrev examples : List Example
examples =
    case "" 2 0 ∷
    case "window=010\n" 2 0 ∷
    case "window=4097\n" 3 7 ∷
    case "window=10\n" 2 10 ∷
    case "window=10\nsignals=2\nsignal=a\nsignal=a\n" 4 36 ∷
    case "window=10\nsignals=1\nsignal=since\n" 4 27 ∷
    case (before ++ "rule=\n") 5 42 ∷
    case (before ++ "rule=a=>\n") 5 45 ∷
    case (before ++ "rule=b\n") 6 42 ∷
    case (before ++ "rule=a@[0,64]\n") 7 44 ∷
    case (before ++ "rule=(((((((((((((((((((((((((((((((((a\n") 8 74 ∷
    case (before ++ "rule=a") 2 37 ∷
    case (before ++ "rule=a\nx") 2 44 ∷
    []

-- Each of them is.
pub examples_refused : T (all_refused examples)
unfolding peek class_of name_byte starts run run_at run_end names_at same_text_lem find_name is_spelled every end_digits decimal is_end_number number_of well_ended name_at digits number in_line line number_line ranged_line name_line in_turn signed end_at offsets_of end_after_lem close_at comma_at interval declared times timed_part more level second since_until name_or_keep plain_part_in inside plain_part rule signal_line head rule_to rule_line rules sheet_of
examples_refused = tt
