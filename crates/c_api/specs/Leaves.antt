-- What a call from C leaves: the number that it answers, and what stands behind the pointers that it was lent.
-- Assumes nothing. `s` is the sheet's text, r the readings' text, c the captions' text, T the table before and U after; O is the buffer of a text before, O' after.
use Rattle.std.specs.Prelude.{◌≡◌, Bool, true, false, List, [], ◌∷◌, ℕ, length}
use Rattle.spec_tilco.specs.Table.{Answer, Unsettled, True, False, Contradiction}
use Rattle.read_captions.specs.declared.Part.{Part}
use Rattle.read_captions.specs.declared.Part.TheVariants.{InSheet, InCaptions}
use Rattle.open_sheet.specs.Results.{Result, accepted, refused}
use Rattle.spec_operations.specs.Gain.{Gain, gain}
use Rattle.spec_operations.specs.Operations.{checked, Adds, Asks}
use Rattle.spec_moves.specs.Moves.{Moves}
use Rattle.spec_print.specs.Printing.{PrintsRule}
use Rattle.spec_dump.specs.Dumps.{WritesDump, ReadsDump}
use Rattle.spec_caption.specs.Captioning.{caption_part}
use Rattle.spec_figures.specs.declared.Record.{Record}
use Rattle.spec_figures.specs.Figures.{Figures}
use Rattle.op_figures.specs.Reports.{records_after}

-- The number answered, what stands at `place`, and what stands at the other places, in the order of the parameters.
pub data Left : Type 0 where
  left : ℕ → ℕ → List ℕ → Left

-- Accepted: 0 is answered, the values are written, and `place` stays. Refused: its number is answered, its place is written, and the others stay.
abbrev pub leaves : {A : Type 0} → (A → List ℕ) → ℕ → List ℕ → Result A → Left
leaves values place before (accepted x) = left 0 place (values x)
leaves values place before (refused n p) = left n p before

-- What check writes, the row count, and what a call that writes a text does, its length.
abbrev pub one_value_lem : ℕ → List ℕ
one_value_lem n = n ∷ []

-- What add writes: how many facts are new, and 1 for a clash, 0 for none.
abbrev pub gain_values : Gain → List ℕ
gain_values (gain new true) = new ∷ 1 ∷ []
gain_values (gain new false) = new ∷ 0 ∷ []

-- What ask writes.
abbrev pub answer_values : Answer → List ℕ
answer_values Unsettled = 0 ∷ []
answer_values True = 1 ∷ []
answer_values False = 2 ∷ []
answer_values Contradiction = 3 ∷ []

-- What caption writes: 1 where the part is in the captions' text and 0 where it is in the sheet, where it starts, and its length.
abbrev pub part_values : Part → List ℕ
part_values (InSheet a n) = 0 ∷ a ∷ n ∷ []
part_values (InCaptions a n) = 1 ∷ a ∷ n ∷ []

-- A call of check.
abbrev pub CheckLeaves : List ℕ → ℕ → List ℕ → Left → Type 0
CheckLeaves s place before l = l ≡ leaves one_value_lem place before (checked s)

-- A call of add.
abbrev pub AddLeaves : List ℕ → List ℕ → List ℕ → List ℕ → ℕ → List ℕ → Left → Type 0
AddLeaves s r T U place before l = (x : Result Gain) × Adds s r T U x × (l ≡ leaves gain_values place before x)

-- A call of ask.
abbrev pub AskLeaves : List ℕ → List ℕ → ℕ → ℕ → ℕ → List ℕ → Left → Type 0
AskLeaves s T signal tick place before l = (x : Result Answer) × Asks s T signal tick x × (l ≡ leaves answer_values place before x)

-- A call that writes a text, and promises P of its answer.
abbrev pub TextLeaves : (Result ℕ → Type 0) → ℕ → List ℕ → Left → Type 0
TextLeaves P place before l = (x : Result ℕ) × P x × (l ≡ leaves one_value_lem place before x)

-- A call of a move, to spans or back to single readings.
abbrev pub MoveLeaves : Bool → List ℕ → List ℕ → List ℕ → List ℕ → ℕ → List ℕ → Left → Type 0
MoveLeaves spans s r O O' place before l = TextLeaves (Moves spans s r O O') place before l

-- A call that prints a rule back.
abbrev pub PrintLeaves : List ℕ → ℕ → List ℕ → List ℕ → ℕ → List ℕ → Left → Type 0
PrintLeaves s rule O O' place before l = TextLeaves (PrintsRule s rule O O') place before l

-- A call that writes a dump of a table,
abbrev pub WriteDumpLeaves : List ℕ → List ℕ → List ℕ → List ℕ → ℕ → List ℕ → Left → Type 0
WriteDumpLeaves s T O O' place before l = TextLeaves (WritesDump s T O O') place before l

-- and one that reads a dump.
abbrev pub ReadDumpLeaves : List ℕ → List ℕ → List ℕ → List ℕ → ℕ → List ℕ → Left → Type 0
ReadDumpLeaves s dump O O' place before l = TextLeaves (ReadsDump s dump O O') place before l

-- A call of caption.
abbrev pub CaptionLeaves : List ℕ → List ℕ → ℕ → ℕ → List ℕ → Left → Type 0
CaptionLeaves s c signal place before l = l ≡ leaves part_values place before (caption_part s c signal)

-- What figures writes besides the records: nothing.
abbrev pub no_values : List Record → List ℕ
no_values rs = []

-- A call of figures: X are the records before, X' after.
abbrev pub FigureLeaves : List ℕ → List ℕ → List ℕ → List ℕ → List ℕ → List Record → List Record → ℕ → Left → Type 0
FigureLeaves s j ns T U X X' place l = (x : Result (List Record)) × Figures s j ns T U (length X) x × (X' ≡ records_after X x) × (l ≡ leaves no_values place [] x)
