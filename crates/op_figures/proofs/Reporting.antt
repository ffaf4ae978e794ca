-- What the words of the figures come to in a report of them, by their outcome.
-- Assumes what each law states. s is the sheet's text, j the joined readings texts, ns their lengths, T the work table before and U after, ws the words after, X the records before.
use mathlib.Core.Path.{◌≡◌, refl, ◌∙◌}
use mathlib.Core.List.{List}
use Prim.Native.Nat.{ℕ, ◌*◌, ◌≤◌}
use native.Mathlib.Omega.{arith}
use lib.ListN.{length}
use Rattle.std.specs.Prelude.{Ok, Err}
use Rattle.spec_refusals.specs.Numbers.{Refusal}
use Rattle.open_sheet.specs.Results.{Result, accepted, refused}
use Rattle.spec_tilco.proofs.Lists.{length_tab}
use Rattle.spec_figures.specs.declared.Record.{Record}
use Rattle.figure_run.specs.RecordWords.{record_words, record_in, records_in}
use Rattle.figure_runs.specs.FigureWords.{outcome_of, WordsHold, FiguresInWords}
use Rattle.op_figures.specs.Reports.{records_after, Reports}

-- There are as many records in words as are asked for.
pub records_long : (ws : List ℕ) (m : ℕ) → length (records_in ws m) ≡ m
records_long ws m = length_tab (record_in ws) m

-- An accepted answer has its records, and its words have them; a refusal has none.
when_accepted : (ws : List ℕ) (X : List Record) (x : Result (List Record)) {u : Unit {0}} → accepted u ≡ outcome_of x → WordsHold (length X) ws x → (record_words * length X ≤ length ws) × (records_in ws (length X) ≡ records_after X x)
when_accepted ws X (accepted rs) e h = h
when_accepted ws X (refused n p) e h = absurd (let z : ◌≡◌ {A = ℕ} 0 1 = cc in omega arith)

when_refused : {n p : ℕ} (X : List Record) (x : Result (List Record)) → refused n p ≡ outcome_of x → X ≡ records_after X x
when_refused X (accepted rs) e = absurd (let z : ◌≡◌ {A = ℕ} 0 1 = cc in omega arith)
when_refused X (refused n p) e = refl

module _ {s j ns T U ws : List ℕ} (X : List Record) where
  -- Where the figures are accepted, there are words for each record.
  pub words_suffice : {u : Unit {0}} → FiguresInWords s j ns T U (length X) ws (Ok u) → record_words * length X ≤ length ws
  words_suffice h = (when_accepted ws X h.answer h.says h.holds).0

  -- Filled from those words, the records are the answer's.
  pub reports_accepted : {X' : List Record} {u : Unit {0}} → FiguresInWords s j ns T U (length X) ws (Ok u) → X' ≡ records_in ws (length X) → Reports s j ns T U X X' (Ok tt)
  reports_accepted h e = record { answer = h.answer; figures = h.figures; says = h.says; filled = e ∙ (when_accepted ws X h.answer h.says h.holds).1 }

  -- At a refusal they are what they were.
  pub reports_refused : {r : Refusal} → FiguresInWords s j ns T U (length X) ws (Err r) → Reports s j ns T U X X (Err r)
  reports_refused h = record { answer = h.answer; figures = h.figures; says = h.says; filled = when_refused X h.answer h.says }
