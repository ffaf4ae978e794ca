-- Calls of add one after the other on one table, each with the sheet's text and a readings text (demand 3).
-- Assumes nothing. `s` is the sheet's text and k its contents.
use Rattle.std.specs.Prelude.{Bool, true, false, ℕ}
use mathlib.Core.List.{List, [], ◌∷◌, Memᴰ}
use Rattle.spec_tilco.specs.Inference.{Mark}
use Rattle.spec_tilco.specs.Meaning.{History}
use Rattle.spec_tilco.specs.Table.{ReadMarks, Agrees, Answer, True, False}
use Rattle.read_sheet.specs.Sheet.{Contents}
use Rattle.open_sheet.specs.Results.{Result, accepted, refused}
use Rattle.spec_operations.specs.Gain.{Gain, gain}
use Rattle.open_sheet.specs.SheetIn.{blank}
use Rattle.spec_operations.specs.Operations.{Adds}
use Rattle.proof_demands.specs.Refusals.{SheetAccepted, ReadingsAccepted}

-- Calls of add with these readings texts lead from the table T to the table U, and these are their answers.
pub data RunTexts (s : List ℕ) : List ℕ → List (List ℕ) → List ℕ → List (Result Gain) → Type 0 where
  done : {T : List ℕ} → RunTexts s T [] T []
  call : {r T T' U : List ℕ} {rs : List (List ℕ)} {a : Result Gain} {answers : List (Result Gain)} → Adds s r T T' a → RunTexts s T' rs U answers
      → RunTexts s T (r ∷ rs) U (a ∷ answers)

-- "Start from an empty table with an accepted sheet": such calls from the table without a mark.
pub record FromBlank (s : List ℕ) (k : Contents) (rs : List (List ℕ)) (U : List ℕ) (answers : List (Result Gain)) : Type 0 where
  pub sheet : SheetAccepted s k
  pub run : RunTexts s (blank k) rs U answers

-- The new facts that an answer reports.
abbrev pub new_in : Result Gain → ℕ
new_in (accepted (gain new clash)) = new
new_in (refused n p) = 0

-- The answer that gives a value.
abbrev pub valued : Bool → Answer
valued true = True
valued false = False

-- The readings: the mark is one of an accepted text's.
pub record ReadIn (s : List ℕ) (k : Contents) (rs : List (List ℕ)) (m : Mark) : Type 0 where
  pub text : List ℕ
  pub among : Memᴰ text rs
  pub marks : List Mark
  pub reads : ReadingsAccepted s k text marks
  pub is : ReadMarks marks m

-- The history agrees with the readings.
abbrev pub AgreesWith : List ℕ → Contents → List (List ℕ) → History → Type 0
AgreesWith s k rs h = (m : Mark) → ReadIn s k rs m → Agrees h m
