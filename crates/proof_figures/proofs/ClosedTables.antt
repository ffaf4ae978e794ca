-- One run: the sheet's empty table can be closed with an accepted text's marks, opens again, and every question to it has an answer.
-- Assumes that the sheet is accepted. `s` is its text and k its contents, r a readings text.
use mathlib.Core.Path.{◌≡◌, refl, sym, ◌∙◌}
use mathlib.Core.Bool.{Bool, true, false, true≢false}
use mathlib.Core.List.{List}
use mathlib.Core.Logic.{◌↔◌}
use Prim.Native.Nat.{ℕ, ◌*◌, ◌≤◌}
use native.Mathlib.Nat.{mul-le-mul_right}
use native.Mathlib.Omega.{arith}
use lib.ListN.{length}
use Rattle.read_bytes.specs.Read.Read.{got}
use Rattle.spec_ticks.proofs.Tables.{empty_small}
use Rattle.spec_tilco.specs.Inference.{Mark, Clash}
use Rattle.spec_tilco.specs.Lowering.{row_count_lem}
use Rattle.spec_tilco.specs.Table.{words, Standing, table_words, Answer}
use Rattle.spec_tilco.proofs.Order.{row_count}
use Rattle.spec_tilco.proofs.Demand2.{added_inside}
use Rattle.read_sheet.specs.Sheet.{Contents, meant}
use Rattle.read_readings.specs.Readings.{readings}
use Rattle.open_sheet.specs.Results.{accepted}
use Rattle.open_sheet.specs.SheetIn.{sheet_in, names_in, blank}
use Rattle.open_table.specs.Opens.{Opens}
use Rattle.open_table.specs.Opens.Opens.{both}
use Rattle.open_table.proofs.Tables.{in_sheet, row_words}
use Rattle.spec_operations.proofs.Opened.{Fitting, fitting}
use Rattle.list_signals.specs.Signals.{Listable}
use Rattle.list_signals.proofs.Answered.{answers_there}
use Rattle.proof_demands.proofs.Deciding.{clash_told}
use Rattle.proof_demands.proofs.Runs.{all_declared, marks_within, blank_opens}
use Rattle.proof_demands.proofs.Closable.{can_be_added}
use Rattle.spec_figures.specs.Figures.{Closed, AnswersOf}

-- A Bool for what can be told.
told : {P : Type 0} → Dec P → (b : Bool) × ((b ≡ true) ↔ P)
told (yes x) = (true, (λ z. x, λ z. refl))
told (no x) = (false, (λ z. absurd (true≢false (sym z)), λ z. absurd (x z)))

module _ (s : List ℕ) (k : Contents) (e : sheet_in s ≡ accepted k) where
  -- The empty table is accepted.
  emptied : Fitting s (blank k) k
  emptied = fitting (blank_opens s k e)

  -- The table of a run.
  pub closed_some : (r : List ℕ) {ms : List Mark} {q : ℕ} → readings (names_in s k) k.window r ≡ got ms q → (U : List ℕ) × Closed k ms U
  closed_some r {ms} f =
      can_be_added (meant k) (all_declared s k e) (blank k) ms emptied.long emptied.inside (marks_within s k e r f) (empty_small 64 (table_words (meant k)))

  pub closed_long : {ms : List Mark} {U : List ℕ} → Closed k ms U → length U ≡ table_words (meant k)
  closed_long A = A.size ∙ emptied.long

  pub closed_opens : (r : List ℕ) {ms : List Mark} {q : ℕ} {U : List ℕ} → readings (names_in s k) k.window r ≡ got ms q → Closed k ms U → Opens s U (accepted k)
  closed_opens r f A = both e (closed_long A) (added_inside (meant k) emptied.inside (marks_within s k e r f) A)

  -- Whether it clashes, by a Bool.
  pub clash_known : (U : List ℕ) → (b : Bool) × ((b ≡ true) ↔ Clash (Standing (meant k) U))
  clash_known U = told (clash_told (words k.window) U)

  -- What ask answers of it.
  pub answers_some : (U : List ℕ) → length U ≡ table_words (meant k) → (f : ℕ → ℕ → Answer) × AnswersOf k U f
  answers_some U l = ((λ x. (answers_there listable x).0), λ x h. (answers_there listable x).1)
    where
      listable : Listable (length k.places) k.window (words k.window) U (clash_known U).0
      listable =
          let sizes = (in_sheet s e).sizes in
          let few : length k.places ≤ row_count_lem (meant k) = omega (arith, row_count (meant k)) in
          let rows : 2 * length k.places * words k.window ≤ 2 * row_count_lem (meant k) * words k.window = mul-le-mul_right (words k.window) (omega arith) in
          record { rows = omega arith; ticks = omega (arith, (row_words sizes.window_low sizes.window_high refl).cover); clashes = (clash_known U).1 }
