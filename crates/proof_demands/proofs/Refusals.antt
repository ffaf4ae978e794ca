-- What is accepted, and each refusal exactly in its listed case: of the sheet, of the readings, of the sheet and the table, of add, of the listing and of ask.
-- Assumes nothing.
use mathlib.Core.Path.{◌≡◌, refl, sym, ap, subst, ◌∙◌}
use mathlib.Core.Bool.{Bool, true, false, true≢false}
use mathlib.Core.List.{List}
use mathlib.Core.Logic.{◌⊎◌, inl, inr, ⊎_elim, ◌↔◌}
use Prim.Native.Nat.{ℕ, ◌<◌, ◌≤◌}
use native.Mathlib.Decide.{dec_lt}
use native.Mathlib.Omega.{arith}
use borrow.Author.Tests.{le-leb}
use lib.ListN.{length, take-append-drop}
use Rattle.spec_limits.specs.Limits.{most_bytes, most_hidden, most_rows}
use Rattle.read_bytes.specs.Read.{Read}
use Rattle.read_bytes.specs.Read.Read.{got, refused as unread}
use Rattle.read_bytes.specs.Bytes.{pick}
use Rattle.read_bytes.proofs.Answers.{not_both}
use Rattle.spec_tilco.specs.Lists.{total}
use Rattle.spec_tilco.specs.Formula.{hiddens}
use Rattle.spec_tilco.specs.Lowering.{row_count_lem}
use Rattle.spec_tilco.specs.Inference.{Mark, mark}
use Rattle.spec_tilco.specs.Table.{words, Stands, Standing, table_words, facts, InRange, Answer, Asked}
use Rattle.read_sheet.specs.Sheet.{Contents, sheet_of, meant}
use Rattle.read_sheet.proofs.Wholes.{sheet_long}
use Rattle.read_readings.specs.Readings.{readings}
use Rattle.read_readings.proofs.Turns.{readings_long}
use Rattle.read_readings.proofs.Cuts.{readings_end}
use Rattle.spec_grammar.proofs.SheetLines.{sheet_refused, sheet_accepted, sheet_end}
use Rattle.spec_grammar.proofs.ReadingLines.{readings_refused, readings_accepted}
use Rattle.open_sheet.specs.Results.{Result, accepted, refused}
use Rattle.open_sheet.specs.SheetIn.{fits, sized, sheet_in, names_in}
use Rattle.open_table.specs.Opens.{Opens}
use Rattle.open_table.specs.Opens.Opens.{both, not_the_sheet, not_the_length, not_inside}
use Rattle.spec_operations.specs.Operations.{counted, checked, Adds, Asks}
use Rattle.spec_operations.specs.Operations.Adds.{not_opened, not_read}
use Rattle.spec_operations.specs.Operations.Asks.{not_opened as not_asked, out_of_range, asked}
use Rattle.list_settled.specs.Prints.{Prints}
use Rattle.list_settled.specs.Prints.Lists.{not_added}
use Rattle.list_settled.specs.Prints.Prints.{no_sheet, no_room, on_table}
use Rattle.open_table.proofs.Tables.{accepted_one, accepted_refused, in_sheet}
use Rattle.open_sheet.proofs.Sheets.{in_refused, in_fits, in_over}
use Rattle.proof_demands.specs.Refusals.{SheetReads, SheetAccepted, TakenUp, ReadingsAccepted, SheetRefused, TableRefused, AddRefused, AskRefused, SettleRefused, Unchanged}
use Rattle.proof_demands.specs.Refusals.SheetRefused.{one, two_to_eight, nine}
use Rattle.proof_demands.specs.Refusals.TableRefused.{of_the_sheet, fifteen, sixteen}
use Rattle.proof_demands.specs.Refusals.AddRefused.{up_to_sixteen, ten, line_by_line}
use Rattle.proof_demands.specs.Refusals.AskRefused.{up_to_sixteen as up-to-the-table, seventeen}
use Rattle.proof_demands.specs.Refusals.SettleRefused.{up_to_nine, twenty_nine, ten_to_sixteen}
use Rattle.spec_operations.proofs.Determined.{refused_alike}
use Rattle.proof_demands.proofs.Deciding.{inside_told}

-- ---- the sheet

over_size : (k : Contents) → fits (meant k) ≡ false → (most_hidden < total hiddens k.rules) ⊎ (most_rows < row_count_lem (meant k))
unfolding fits
over_size k e = go (dec_lt most_hidden (total hiddens k.rules)) (dec_lt most_rows (row_count_lem (meant k)))
  where
    go : Dec (most_hidden < total hiddens k.rules) → Dec (most_rows < row_count_lem (meant k)) → (most_hidden < total hiddens k.rules) ⊎ (most_rows < row_count_lem (meant k))
    go (yes h) d = inl h
    go (no h) (yes l) = inr l
    go (no h) (no l) = absurd (true≢false (rw (le-leb (total hiddens k.rules) most_hidden (omega arith), le-leb (row_count_lem (meant k)) most_rows (omega arith)) at e))

-- What is said of a refusal's number and place is said of the same ones.
same_refusal : {A : Type 0} (Q : ℕ → ℕ → Type 0) {m q n p : ℕ} → ◌≡◌ {A = Read A} (unread m q) (unread n p) → Q m q → Q n p
same_refusal Q {m} {q} {n} {p} e x =
    let i : m ≡ n = cc in
    let j : q ≡ p = cc in
    subst (Q n) j (subst (λ (k : ℕ). Q k q) i x)

-- The case of a refusal.
abbrev Case : List ℕ → Result Contents → Type 0
Case s (accepted k) = Unit {0}
Case s (refused n p) = SheetRefused s n p

module _ (s : List ℕ) where
  -- What is read is what the lines say, and the other way round.
  lines_say : {k : Contents} {q : ℕ} → sheet_of s ≡ got k q → SheetReads s k
  lines_say {k} {q} e = go (dec_lt most_bytes (length s))
    where
      go : Dec (most_bytes < length s) → SheetReads s k
      go (yes l) = absurd (not_both (sym e ∙ sheet_long s l))
      go (no l) =
          let fits : length s ≤ most_bytes = omega arith in
          let f = e ∙ ap (got k) (sheet_end s fits e) in
          record { short = fits; lines = (sheet_accepted s fits k.window k.places k.rules).0 f }

  say_lines : {k : Contents} → SheetReads s k → sheet_of s ≡ got k (length s)
  say_lines {k} x = (sheet_accepted s x.short k.window k.places k.rules).1 x.lines

  of_lines : {n p : ℕ} → sheet_of s ≡ unread n p → SheetRefused s n p
  of_lines {n} {p} e = go (dec_lt most_bytes (length s))
    where
      go : Dec (most_bytes < length s) → SheetRefused s n p
      go (yes l) = same_refusal (SheetRefused s) (sym (sheet_long s l) ∙ e) (one l)
      go (no l) = two_to_eight (omega arith) ((sheet_refused s (omega arith) n p).0 e)

  -- The sheet's refusals by their cases.
  pub sheet_case : {n p : ℕ} → sheet_in s ≡ refused n p → SheetRefused s n p
  unfolding sheet_in
  sheet_case {n} {p} e = of_read (sheet_of s) refl e
    where
      of_size : (k : Contents) (q : ℕ) → sheet_of s ≡ got k q → (b : Bool) → fits (meant k) ≡ b → pick b (λ _. accepted k) (refused 9 0) ≡ refused n p → SheetRefused s n p
      of_size k q f true g h = absurd (accepted_refused h)
      of_size k q f false g h = subst (Case s) h (nine (lines_say f) (over_size k g))

      of_read : (R : Read Contents) → sheet_of s ≡ R → sized R ≡ refused n p → SheetRefused s n p
      of_read (got k q) f h = of_size k q f (fits (meant k)) refl h
      of_read (unread m q) f h = subst (Case s) h (of_lines f)

  pub case_sheet : {n p : ℕ} → SheetRefused s n p → sheet_in s ≡ refused n p
  case_sheet (one l) = in_refused s (sheet_long s l)
  case_sheet (two_to_eight {n} {p} l f) = in_refused s ((sheet_refused s l n p).1 f)
  case_sheet (nine x o) = in_over s (say_lines x) o

  -- The sheet is accepted.
  pub sheet_in_lem : {k : Contents} → sheet_in s ≡ accepted k → SheetAccepted s k
  sheet_in_lem e = let x = in_sheet s e in record { reads = lines_say x.reads; hidden = x.hidden; rows = x.rows }

  pub in_sheet_text : {k : Contents} → SheetAccepted s k → sheet_in s ≡ accepted k
  in_sheet_text x = in_fits s (say_lines x.reads) x.hidden x.rows

  -- check's answers.
  pub check_accepts : {n : ℕ} → checked s ≡ accepted n ↔ ((k : Contents) × SheetAccepted s k × (n ≡ row_count_lem (meant k)))
  check_accepts {n} = (λ e. go (sheet_in s) refl e, λ x. ap counted (in_sheet_text x.1) ∙ ap accepted (sym x.2))
    where
      go : (r : Result Contents) → sheet_in s ≡ r → counted r ≡ accepted n → (k : Contents) × SheetAccepted s k × (n ≡ row_count_lem (meant k))
      go (accepted k) f e = (k, sheet_in_lem f, sym (accepted_one e))
      go (refused m q) f e = absurd (accepted_refused (sym e))

  pub check_refusals : {n p : ℕ} → checked s ≡ refused n p ↔ SheetRefused s n p
  check_refusals {n} {p} = (λ e. sheet_case (go (sheet_in s) e), λ x. ap counted (case_sheet x))
    where
      go : (r : Result Contents) → counted r ≡ refused n p → r ≡ refused n p
      go (accepted k) e = absurd (accepted_refused e)
      go (refused m q) e = refused_alike e

-- ---- the readings

module _ (s : List ℕ) (k : Contents) (r : List ℕ) where
  -- What is read of them is what their lines say, and the other way round.
  pub readings_in : {ms : List Mark} {q : ℕ} → readings (names_in s k) k.window r ≡ got ms q → ReadingsAccepted s k r ms
  readings_in {ms} {q} e = go (dec_lt most_bytes (length r))
    where
      go : Dec (most_bytes < length r) → ReadingsAccepted s k r ms
      go (yes l) = absurd (not_both (sym e ∙ readings_long (names_in s k) k.window r l))
      go (no l) =
          let fits : length r ≤ most_bytes = omega arith in
          let f = e ∙ ap (got ms) (readings_end (names_in s k) k.window r ms q e) in
          record { short = fits; lines = (readings_accepted (names_in s k) k.window r fits ms).0 f }

  pub in_readings : {ms : List Mark} → ReadingsAccepted s k r ms → readings (names_in s k) k.window r ≡ got ms (length r)
  in_readings {ms} x = (readings_accepted (names_in s k) k.window r x.short ms).1 x.lines

-- ---- the sheet and the table

module _ {s T : List ℕ} where
  pub table_case : {n p : ℕ} → Opens s T (refused n p) → TableRefused s T n p
  table_case (not_the_sheet e) = of_the_sheet (sheet_case s e)
  table_case (not_the_length e l) = fifteen (sheet_in_lem s e) l
  table_case (not_inside {k} e l i) =
      ⊎_elim (λ j. absurd (i j)) (λ o. sixteen o.row o.tick o.value (sheet_in_lem s e) l o.is.0 o.is.1) (inside_told (words k.window) T k.window)

  pub case_table : {n p : ℕ} → TableRefused s T n p → Opens s T (refused n p)
  case_table (of_the_sheet x) = not_the_sheet (case_sheet s x)
  case_table (fifteen e l) = not_the_length (in_sheet_text s e) l
  case_table (sixteen r t v e l i h) = not_inside (in_sheet_text s e) l (λ f. absurd (omega (arith, h, f r t v i)))

  -- The sheet and the table are accepted exactly if none of these cases is given.
  pub taken_up : {k : Contents} → Opens s T (accepted k) → TakenUp s T k
  taken_up (both e l i) = record { sheet = sheet_in_lem s e; long = l; inside = i }

  pub up_taken : {k : Contents} → TakenUp s T k → Opens s T (accepted k)
  up_taken x = both (in_sheet_text s x.sheet) x.long x.inside

-- ---- the operations

-- A table that keeps every word keeps its marks and its facts.
unchanged : {T U : List ℕ} → U ≡ T → Unchanged T U
unchanged {T} {U} e = record {
  words = e;
  marks = λ n m. (subst (λ (X : List ℕ). Stands n X m) e, subst (λ (X : List ℕ). Stands n X m) (sym e));
  facts = λ n signals. ap (facts n signals) e;
}

module _ {s r T : List ℕ} where
  of_readings : {k : Contents} {n p : ℕ} → TakenUp s T k → readings (names_in s k) k.window r ≡ unread n p → AddRefused s r T n p
  of_readings {k} {n} {p} x e = go (dec_lt most_bytes (length r))
    where
      go : Dec (most_bytes < length r) → AddRefused s r T n p
      go (yes l) = same_refusal (AddRefused s r T) (sym (readings_long (names_in s k) k.window r l) ∙ e) (ten x l)
      go (no l) = line_by_line x (omega arith) ((readings_refused (names_in s k) k.window r (omega arith) n p).0 e)

module _ {s r T U : List ℕ} where
  add_case : {n p : ℕ} → Adds s r T U (refused n p) → AddRefused s r T n p × Unchanged T U
  add_case (not_opened o e) = (up_to_sixteen (table_case o), unchanged e)
  add_case (not_read o f e) = (of_readings (taken_up o) f, unchanged e)

  case_add : {n p : ℕ} → AddRefused s r T n p → U ≡ T → Adds s r T U (refused n p)
  case_add (up_to_sixteen x) e = not_opened (case_table x) e
  case_add (ten {k} x l) e = not_read (up_taken x) (readings_long (names_in s k) k.window r l) e
  case_add (line_by_line {k} {n} {p} x l f) e = not_read (up_taken x) ((readings_refused (names_in s k) k.window r l n p).1 f) e

  -- add's, which keep the table.
  pub add_refusals : {n p : ℕ} → Adds s r T U (refused n p) ↔ (AddRefused s r T n p × Unchanged T U)
  add_refusals = (add_case, λ x. case_add x.0 x.1.words)

-- The listing program's, which keep the lent table.
settle_case : {s r T U : List ℕ} {n p : ℕ} → Prints s r T U (refused n p) → SettleRefused s r T n p × Unchanged T U
settle_case {s} (no_sheet e) = (up_to_nine (sheet_case s e), unchanged refl)
settle_case {s} (no_room e l) = (twenty_nine (sheet_in_lem s e) l, unchanged refl)
settle_case {s} {T = T} (on_table {k} e l (not_added x)) = (ten_to_sixteen (sheet_in_lem s e) l (add_case x).0, unchanged (take-append-drop (table_words (meant k)) T))

module _ {s r T U : List ℕ} where
  case_settle : {n p : ℕ} → SettleRefused s r T n p → U ≡ T → Prints s r T U (refused n p)
  case_settle {n} {p} x e = subst (λ (X : List ℕ). Prints s r T X (refused n p)) (sym e) (go x)
    where
      go : {n p : ℕ} → SettleRefused s r T n p → Prints s r T T (refused n p)
      go (up_to_nine y) = no_sheet (case_sheet s y)
      go (twenty_nine y l) = no_room (in_sheet_text s y) l
      go (ten_to_sixteen {k} {n} {p} y l z) =
          subst (λ (X : List ℕ). Prints s r T X (refused n p)) (take-append-drop (table_words (meant k)) T) (on_table (in_sheet_text s y) l (not_added (case_add z refl)))

  pub settle_refusals : {n p : ℕ} → Prints s r T U (refused n p) ↔ (SettleRefused s r T n p × Unchanged T U)
  settle_refusals = (settle_case, λ x. case_settle x.0 x.1.words)

-- A signal or a tick outside its range.
out_case : (k : Contents) (x t : ℕ) → (InRange (meant k) (mark x t true) → ⊥) → (length k.places ≤ x) ⊎ (k.window ≤ t)
out_case k x t f = go (dec_lt x (length k.places)) (dec_lt t k.window)
  where
    go : Dec (x < length k.places) → Dec (t < k.window) → (length k.places ≤ x) ⊎ (k.window ≤ t)
    go (yes i) (yes j) = absurd (f (i, j))
    go (yes i) (no j) = inr (omega arith)
    go (no i) d = inl (omega arith)

module _ {s T : List ℕ} {x t : ℕ} where
  ask_case : {n p : ℕ} → Asks s T x t (refused n p) → AskRefused s T x t n p
  ask_case (not_asked o) = up-to-the-table (table_case o)
  ask_case (out_of_range {k} o i) = seventeen (taken_up o) (out_case k x t i)

  case_ask : {n p : ℕ} → AskRefused s T x t n p → Asks s T x t (refused n p)
  case_ask (up-to-the-table y) = not_asked (case_table y)
  case_ask (seventeen y i) = out_of_range (up_taken y) (λ z. ⊎_elim (λ h. absurd (omega (arith, h, z.0))) (λ h. absurd (omega (arith, h, z.1))) i)

  -- ask's answers: from the marks, or a refusal.
  pub ask_accepts : {a : Answer} → Asks s T x t (accepted a) ↔ ((k : Contents) × TakenUp s T k × (x < length k.places) × (t < k.window) × Asked (Standing (meant k) T) x t a)
  ask_accepts {a} = (go, λ y. asked (up_taken y.1) (y.2, y.3) y.4)
    where
      go : Asks s T x t (accepted a) → (k : Contents) × TakenUp s T k × (x < length k.places) × (t < k.window) × Asked (Standing (meant k) T) x t a
      go (asked {k} o i u) = (k, taken_up o, i.0, i.1, u)

  pub ask_refusals : {n p : ℕ} → Asks s T x t (refused n p) ↔ AskRefused s T x t n p
  ask_refusals = (ask_case, case_ask)
