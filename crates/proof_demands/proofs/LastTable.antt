-- The last table of calls of add from the table without a mark: which calls end in one table, and that the new facts reported add up.
-- Assumes nothing. s is the sheet's text and k its contents.
use mathlib.Core.Path.{◌≡◌, sym, ◌∙◌}
use mathlib.Core.List.{List, Memᴰ}
use mathlib.Core.Logic.{◌↔◌}
use Prim.Native.Nat.{ℕ}
use Rattle.spec_tilco.specs.Lists.{total}
use Rattle.spec_tilco.specs.Inference.{Mark}
use Rattle.spec_tilco.specs.Table.{Standing, table_words, facts_of, ReadMarks, Leads}
use Rattle.spec_tilco.specs.Calls.{Some}
use Rattle.spec_tilco.proofs.Derives.{monotone}
use Rattle.spec_tilco.proofs.Demand3.{table_only, table_every, reports_add_up, cuts_change_nothing}
use Rattle.read_sheet.specs.Sheet.{Contents, meant}
use Rattle.open_sheet.specs.Results.{Result}
use Rattle.spec_operations.specs.Gain.{Gain}
use Rattle.proof_demands.specs.Refusals.{ReadingsAccepted}
use Rattle.proof_demands.specs.Runs.{FromBlank, new_in, ReadIn}
use Rattle.proof_demands.proofs.Refusals.{in_sheet_text}
use Rattle.proof_demands.proofs.Texts.{marks_read, read_marks, read_some}
use Rattle.proof_demands.proofs.Runs.{AsCalls, as_calls, calls, marks_in, window_some, blank_opens}
use Rattle.open_sheet.specs.SheetIn.{blank}

-- The calls as `spec_tilco` speaks of them.
pub as_run : {s : List ℕ} {k : Contents} {rs : List (List ℕ)} {U : List ℕ} {answers : List (Result Gain)} → FromBlank s k rs U answers → AsCalls s k (blank k) rs U answers
as_run {s} {k} x = let e = in_sheet_text s x.sheet in as_calls s k e (blank_opens s k e) x.run

module _ {s : List ℕ} {k : Contents} {rs : List (List ℕ)} {U : List ℕ} {answers : List (Result Gain)} (x : FromBlank s k rs U answers) where
  -- Where one of the texts is accepted, the table has exactly what the rules lead to from the readings.
  pub last_exactly : {r : List ℕ} {ms : List Mark} → Memᴰ r rs → ReadingsAccepted s k r ms → (m : Mark) → Standing (meant k) U m ↔ Leads (meant k) (ReadIn s k rs) m
  last_exactly i y m = (
    λ z. monotone (marks_read s k rs) (table_only (meant k) (table_words (meant k)) (as_run x).run m z),
    λ d. table_every (meant k) (table_words (meant k)) (as_run x).run (read_some s k rs i y) m (monotone (read_marks s k rs) d),
  )

  -- The new facts reported add up to its facts.
  pub news_add_up : total new_in answers ≡ facts_of (meant k) U
  news_add_up = sym (as_run x).sum ∙ reports_add_up (meant k) (table_words (meant k)) (as_run x).run (window_some s k (in_sheet_text s x.sheet))

  module _ {rs' : List (List ℕ)} {U' : List ℕ} {answers' : List (Result Gain)} (x' : FromBlank s k rs' U' answers') where
    -- Two runs whose accepted texts hold the same marks end in one table,
    pub by_marks : Some (calls s k rs) → Some (calls s k rs') → ((m : Mark) → ReadMarks (marks_in s k rs) m ↔ ReadMarks (marks_in s k rs') m) → U ≡ U'
    by_marks c c' same = cuts_change_nothing (meant k) (window_some s k (in_sheet_text s x.sheet)) (table_words (meant k)) (as_run x).run c (as_run x').run c' same

    -- and so do two with the same readings, where a text of each is accepted. Calls of both forms mix: what counts is the marks, whatever the form of each text.
    pub by_readings : {r r' : List ℕ} {ms ms' : List Mark} → Memᴰ r rs → ReadingsAccepted s k r ms → Memᴰ r' rs' → ReadingsAccepted s k r' ms'
        → ((m : Mark) → ReadIn s k rs m ↔ ReadIn s k rs' m) → U ≡ U'
    by_readings i y i' y' same =
        by_marks (read_some s k rs i y) (read_some s k rs' i' y')
        (λ m. (λ z. read_marks s k rs' m ((same m).0 (marks_read s k rs m z)), λ z. read_marks s k rs m ((same m).1 (marks_read s k rs' m z))))
