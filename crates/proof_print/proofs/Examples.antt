-- Rules as they are written and as they are printed back, by computation.
-- Assumes nothing.
use mathlib.Core.Bool.{Bool, true, false, ◌&&◌}
use mathlib.Core.List.{List, [], ◌∷◌, flatten}
use Prim.Native.Nat.{ℕ}
use Prim.Native.String.{String}
use lib.Dec.{T}
use Rattle.read_bytes.specs.Read.{Read}
use Rattle.read_bytes.specs.Read.Read.{got, refused}
use Rattle.read_bytes.specs.Bytes.{bytes, peek, class_of, name_byte, starts, run, run_at, run_end}
use Rattle.read_bytes.specs.Numbers.{digits}
use Rattle.read_names.specs.Spellings.{same_text_lem, find_name, is_spelled}
use Rattle.read_interval.specs.Interval.{signed, end_at, offsets_of, end_after_lem, close_at, comma_at, interval}
use Rattle.write_bytes.specs.Writes.{last_digits, decimal_text}
use Rattle.spec_tilco.specs.Formula.{Written}
use Rattle.read_parts.specs.FormulaText.{declared, times, timed_part, more, level, second, since_until, name_or_keep, plain_part_in, inside, plain_part, rule}
use Rattle.spec_print.specs.RuleTexts.{end_text, interval_tokens, tokens, printed}

-- A rule as it is written, and as it is printed back.
record Example : Type 0 where
  written : String
  back : String

abbrev case : String → String → Example
case w b = record { written = w; back = b }

-- The declared names.
abbrev names : List (List ℕ)
names = bytes "a" ∷ bytes "b" ∷ bytes "c" ∷ []

-- Is it printed so?
abbrev is_printed : Read Written → List ℕ → Bool
is_printed (got f q) t = same_text_lem (printed names f) t
is_printed (refused n p) t = false

abbrev all_printed : List Example → Bool
all_printed [] = true
all_printed (e ∷ es) = is_printed (rule names (bytes e.written) 0) (bytes e.back) && all_printed es

-- Parentheses that are not needed, and those that are; ends that are left out; all at once.
abbrev examples : List Example
examples =
    case "((a))" "a" ∷
    case "(a&b)&c" "a&b&c" ∷
    case "a&(b&c)" "a&(b&c)" ∷
    case "(a|b)&c" "(a|b)&c" ∷
    case "(a=>b)=>c" "(a=>b)=>c" ∷
    case "!(a@[0,1])" "!(a@[0,1])" ∷
    case "(!a)@[0,1]" "!a@[0,1]" ∷
    case "a@(0,3)" "a@[1,2]" ∷
    case "a?(-3,0)" "a?[-2,-1]" ∷
    case "since((a|b),((c)))<=>(until(a,b)@(9,11))" "since(a|b,c)<=>until(a,b)@[10,10]" ∷
    []

-- Each of them is.
pub examples_printed : T (all_printed examples)
unfolding peek class_of name_byte starts run run_at run_end same_text_lem find_name is_spelled digits signed end_at offsets_of end_after_lem close_at comma_at interval declared times timed_part more level second since_until name_or_keep plain_part_in inside plain_part rule last_digits decimal_text end_text interval_tokens tokens flatten printed
examples_printed = tt
