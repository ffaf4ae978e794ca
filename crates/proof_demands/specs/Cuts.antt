-- Calls of add on one table, and a readings text cut between readings, or between spans, into the texts of such calls (demand 3; E5).
-- Assumes nothing. `s` is the sheet's text and k its contents, R a readings text; `spans` tells its form.
use Rattle.std.specs.Prelude.{◌≡◌, Bool, ℕ, ◌≤◌, ◌<◌, length, take}
use mathlib.Core.List.{List, [], ◌∷◌, ◌++◌, flatten, Memᴰ}
use Rattle.read_bytes.specs.Bytes.{bytes}
use Rattle.read_reading.specs.Spans.{Span}
use Rattle.read_sheet.specs.Sheet.{Contents}
use Rattle.open_sheet.specs.Results.{Result, refused}
use Rattle.open_sheet.specs.SheetIn.{names_in}
use Rattle.spec_operations.specs.Gain.{Gain}
use Rattle.spec_operations.specs.Operations.{Adds}
use Rattle.spec_grammar.specs.Lines.{LineAt, after}
use Rattle.spec_grammar.specs.ReadingLines.{HasForm, Next, Right, Reached}

-- "Any boundary between readings", or between spans: the first place, and the place after each entry's last line. All lines before it are right.
pub data Boundary (names : List (List ℕ)) (W : ℕ) (R : List ℕ) : ℕ → Type 0 where
  first : Boundary names W R 0
  last_line : {spans : Bool} {p f l x : ℕ} {es ds : List Span} {v : List ℕ} → HasForm R spans → Reached spans names W R (Next.value f l x es) p → LineAt R p (bytes "value=" ++ v)
      → Right spans names W (Next.value f l x es) v (Next.ticks ds)
      → Boundary names W R (after p (bytes "value=" ++ v))

-- R is cut into these parts, "one or more": joined they are R, and each begins at a boundary.
pub record CutInto (s : List ℕ) (k : Contents) (R : List ℕ) (parts : List (List ℕ)) : Type 0 where
  pub joined : flatten parts ≡ R
  pub some : 1 ≤ length parts
  pub begin : (n : ℕ) → n < length parts → Boundary (names_in s k) k.window R (length (flatten (take n parts)))

-- A call of add: the texts that it is given.
pub record Given : Type 0 where
  pub sheet : List ℕ
  pub readings : List ℕ

abbrev pub given : List ℕ → List ℕ → Given
given s r = record { sheet = s; readings = r }

-- Calls of add one after the other lead from the table T to the table U, and these are their answers.
pub data RunCalls : List ℕ → List Given → List ℕ → List (Result Gain) → Type 0 where
  done : {T : List ℕ} → RunCalls T [] T []
  call : {c : Given} {T T' U : List ℕ} {cs : List Given} {a : Result Gain} {answers : List (Result Gain)} → Adds c.sheet c.readings T T' a → RunCalls T' cs U answers
      → RunCalls T (c ∷ cs) U (a ∷ answers)

-- Each call has the sheet and one of the parts, or it is refused, whatever it was given.
pub data PartsOrRefused (s : List ℕ) (parts : List (List ℕ)) : List Given → List (Result Gain) → Type 0 where
  none : PartsOrRefused s parts [] []
  part : {c : Given} {cs : List Given} {a : Result Gain} {answers : List (Result Gain)} → c.sheet ≡ s → Memᴰ c.readings parts → PartsOrRefused s parts cs answers
      → PartsOrRefused s parts (c ∷ cs) (a ∷ answers)
  refusal : {c : Given} {cs : List Given} {n p : ℕ} {answers : List (Result Gain)} → PartsOrRefused s parts cs answers → PartsOrRefused s parts (c ∷ cs) (refused n p ∷ answers)

-- Calls with the parts, "in any order, repeats and refused calls among them": each part is the readings of one call at least.
pub record InCalls (s : List ℕ) (parts : List (List ℕ)) (cs : List Given) (answers : List (Result Gain)) : Type 0 where
  pub each : (r : List ℕ) → Memᴰ r parts → Memᴰ (given s r) cs
  pub others : PartsOrRefused s parts cs answers
