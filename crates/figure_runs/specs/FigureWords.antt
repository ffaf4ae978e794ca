-- What figures answers, with the records in plain words.
-- Assumes nothing. `s` is the sheet's text, j the joined readings texts, ns their lengths, T the work table before and U after, m how many records are asked for, ws'
-- the words after.
use Rattle.std.specs.Prelude.{◌≡◌, List, ℕ, ◌*◌, ◌≤◌, length, Result as Answer}
use Rattle.spec_refusals.specs.Numbers.{Refusal}
use Rattle.open_sheet.specs.Results.{Result, accepted, refused, answer_says}
use Rattle.spec_figures.specs.declared.Record.{Record}
use Rattle.spec_figures.specs.Figures.{Figures}
use Rattle.figure_run.specs.RecordWords.{record_words, records_in}

-- What an outcome says: accepted, or a refusal's number and place.
abbrev pub outcome_says : Answer (Unit {0}) Refusal → Result (Unit {0})
outcome_says = answer_says (λ u. u)

-- An answer without its records.
abbrev pub outcome_of : Result (List Record) → Result (Unit {0})
outcome_of (accepted rs) = accepted tt
outcome_of (refused n p) = refused n p

-- The words have the answer's records, if it has any.
abbrev pub WordsHold : ℕ → List ℕ → Result (List Record) → Type 0
WordsHold m ws (accepted rs) = (record_words * m ≤ length ws) × (records_in ws m ≡ rs)
WordsHold m ws (refused n p) = Unit {0}

-- What figures answers, told by the outcome r and the words.
pub record FiguresInWords (s j ns T U : List ℕ) (m : ℕ) (ws' : List ℕ) (r : Answer (Unit {0}) Refusal) : Type 0 where
  pub answer : Result (List Record)
  pub figures : Figures s j ns T U m answer
  pub says : outcome_says r ≡ outcome_of answer
  pub holds : WordsHold m ws' answer
