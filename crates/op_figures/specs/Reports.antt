-- What figures answers and leaves in the work table and the records that it is lent (E1).
-- Assumes nothing. `s` is the sheet's text, j the joined readings texts, ns their lengths, T the work table before and U after, X the records before and X' after.
use Rattle.std.specs.Prelude.{◌≡◌, List, ℕ, length, Result as Answer}
use Rattle.spec_refusals.specs.Numbers.{Refusal}
use Rattle.open_sheet.specs.Results.{Result, accepted, refused}
use Rattle.spec_figures.specs.declared.Record.{Record}
use Rattle.spec_figures.specs.Figures.{Figures}
use Rattle.figure_runs.specs.FigureWords.{outcome_says, outcome_of}

-- The records after an answer: those that it has, or at a refusal what they were.
abbrev pub records_after : List Record → Result (List Record) → List Record
records_after X (accepted rs) = rs
records_after X (refused n p) = X

-- What figures answers, told by the outcome r and the lent records.
pub record Reports (s j ns T U : List ℕ) (X X' : List Record) (r : Answer (Unit {0}) Refusal) : Type 0 where
  pub answer : Result (List Record)
  pub figures : Figures s j ns T U (length X) answer
  pub says : outcome_says r ≡ outcome_of answer
  pub filled : X' ≡ records_after X answer
