-- Each refusal of figures exactly in its listed case and its order, and the work table keeps every word.
-- Assumes nothing. `s` is the sheet's text and k its contents, j the joined readings texts, ns their lengths, T the work table before and U after, m how many records are lent;
-- n is the number and p the place.
use mathlib.Core.Path.{◌≡◌, refl, sym, ap, subst, ◌∙◌}
use mathlib.Core.List.{List}
use mathlib.Core.Logic.{◌⊎◌, inl, inr, ⊎_elim, ◌↔◌}
use Prim.Native.Nat.{ℕ, ◌+◌, ◌<◌}
use native.Mathlib.Decide.{ℕ_discrete, dec_lt}
use native.Mathlib.Omega.{arith}
use lib.ListN.{length}
use Rattle.spec_limits.specs.Limits.{most_bytes, most_runs}
use Rattle.read_bytes.specs.Read.Read.{refused as unread}
use Rattle.spec_tilco.specs.Lists.{total}
use Rattle.spec_tilco.specs.Table.{table_words}
use Rattle.read_sheet.specs.Sheet.{Contents, meant}
use Rattle.read_readings.specs.Readings.{readings}
use Rattle.read_readings.proofs.Turns.{readings_long}
use Rattle.spec_grammar.proofs.ReadingLines.{readings_refused}
use Rattle.open_sheet.specs.Results.{Result, accepted, refused}
use Rattle.open_sheet.specs.SheetIn.{sheet_in, names_in}
use Rattle.open_table.proofs.Tables.{accepted_refused}
use Rattle.spec_operations.specs.Operations.{counted, checked}
use Rattle.spec_operations.proofs.Determined.{refused_alike, one_sheet}
use Rattle.proof_demands.specs.Refusals.{SheetAccepted}
use Rattle.proof_demands.proofs.Refusals.{sheet_in_lem, in_sheet_text, readings_in, in_readings}
use Rattle.spec_figures.specs.declared.Record.{Record}
use Rattle.spec_figures.specs.Texts.{LengthsFit}
use Rattle.spec_figures.specs.Figures.{Figures}
use Rattle.spec_figures.specs.Figures.Figures.{not_opened, not_the_table, not_the_records, not_the_lengths, not_read}
use Rattle.spec_figures.proofs.Determined.{figures_one}
use Rattle.proof_figures.specs.FigureCases.{start_of, text_at, TextRefused, FirstRefused, LentRight, FiguresRefused}
use Rattle.proof_figures.specs.FigureCases.TextRefused.{ten, line_by_line}
use Rattle.proof_figures.specs.FigureCases.FiguresRefused.{up_to_nine, fifteen, eighteen, nineteen, of_a_text}
use Rattle.proof_figures.proofs.TextsInTurn.{FirstOff, first_off, off_first}

-- ---- the sheet

-- What check refuses.
check_off : (s : List ℕ) {n p : ℕ} → checked s ≡ refused n p → sheet_in s ≡ refused n p
check_off s {n} {p} e = go (sheet_in s) e
  where
    go : (R : Result Contents) → counted R ≡ refused n p → R ≡ refused n p
    go (accepted k) f = absurd (accepted_refused f)
    go (refused m q) f = refused_alike f

-- One sheet has one meaning.
same_sheet : {s : List ℕ} {k c : Contents} → SheetAccepted s k → SheetAccepted s c → k ≡ c
same_sheet {s} x y = one_sheet (in_sheet_text s x) (in_sheet_text s y)

-- ---- the texts

module _ (s : List ℕ) (k : Contents) where
  -- A text is refused exactly in its cases.
  text_case : (r : List ℕ) {n p : ℕ} → readings (names_in s k) k.window r ≡ unread n p → TextRefused s k r n p
  text_case r {n} {p} e = go (dec_lt most_bytes (length r))
    where
      go : Dec (most_bytes < length r) → TextRefused s k r n p
      go (yes l) =
          let z = sym (readings_long (names_in s k) k.window r l) ∙ e in
          let i : 10 ≡ n = cc in
          let j : 0 ≡ p = cc in
          subst (TextRefused s k r n) j (subst (λ (m : ℕ). TextRefused s k r m 0) i (ten l))
      go (no l) = line_by_line (omega arith) ((readings_refused (names_in s k) k.window r (omega arith) n p).0 e)

  case_text : {r : List ℕ} {n p : ℕ} → TextRefused s k r n p → readings (names_in s k) k.window r ≡ unread n p
  case_text {r} (ten l) = readings_long (names_in s k) k.window r l
  case_text {r} (line_by_line {n} {p} l f) = (readings_refused (names_in s k) k.window r l n p).1 f

  first_case : (ns j : List ℕ) {i n p : ℕ} → FirstOff (names_in s k) k.window ns j i n p → FirstRefused s k ns j i n p
  first_case ns j {i} x = record {
    among = x.among;
    refuses = text_case (text_at ns j i) x.off;
    before = λ h l. let y = x.before h l in (y.0, readings_in s k (text_at ns j h) y.2);
  }

  case_first : {ns j : List ℕ} {i n p : ℕ} → FirstRefused s k ns j i n p → FirstOff (names_in s k) k.window ns j i n p
  case_first {ns} {j} x = record {
    among = x.among;
    off = case_text x.refuses;
    before = λ h l. let y = x.before h l in (y.0, length (text_at ns j h), in_readings s k (text_at ns j h) y.1);
  }

-- ---- the lengths

over_lengths : (ns j : List ℕ) → (LengthsFit ns (length j) → ⊥) → (most_runs < length ns) ⊎ (total (λ n. n) ns ≡ length j → ⊥)
over_lengths ns j f = go (dec_lt most_runs (length ns)) (ℕ_discrete (total (λ n. n) ns) (length j))
  where
    go : Dec (most_runs < length ns) → Dec (total (λ n. n) ns ≡ length j) → (most_runs < length ns) ⊎ (total (λ n. n) ns ≡ length j → ⊥)
    go (yes l) d = inl l
    go (no l) (no e) = inr e
    go (no l) (yes e) = absurd (f (record { few = omega arith; whole = e }))

-- ---- figures

module _ {s j ns T U : List ℕ} {m : ℕ} where
  figures_case : {n p : ℕ} → Figures s j ns T U m (refused n p) → FiguresRefused s j ns T m n p × (U ≡ T)
  figures_case (not_opened e u) = (up_to_nine (ap counted e), u)
  figures_case (not_the_table e l u) = (fifteen (sheet_in_lem s e) l, u)
  figures_case (not_the_records e l h u) = (eighteen (sheet_in_lem s e) l h, u)
  figures_case (not_the_lengths e l h f u) = (nineteen (record { sheet = sheet_in_lem s e; long = l; many = h }) (over_lengths ns j f), u)
  figures_case (not_read {k} {n} {p} e l h f r u) =
      let x = first_off (names_in s k) k.window ns j 0 f.whole r in
      let z : start_of ns x.index + x.place ≡ p = omega (arith, x.at) in
      (subst (FiguresRefused s j ns T m n) z (of_a_text (record { sheet = sheet_in_lem s e; long = l; many = h }) f (first_case s k ns j x.first)), u)

  case_figures : {n p : ℕ} → FiguresRefused s j ns T m n p → U ≡ T → Figures s j ns T U m (refused n p)
  case_figures (up_to_nine e) u = not_opened (check_off s e) u
  case_figures (fifteen e l) u = not_the_table (in_sheet_text s e) l u
  case_figures (eighteen e l h) u = not_the_records (in_sheet_text s e) l h u
  case_figures (nineteen x o) u =
      not_the_lengths (in_sheet_text s x.sheet) x.long x.many (λ f. ⊎_elim (λ l. absurd (omega (arith, l, f.few))) (λ e. e f.whole) o) u
  case_figures (of_a_text {k} {i} {n} {p} x f o) u =
      let z : 0 + (start_of ns i + p) ≡ start_of ns i + p = omega arith in
      not_read (in_sheet_text s x.sheet) x.long x.many f (off_first (names_in s k) k.window ns j 0 i f.whole (case_first s k o) ∙ ap (unread n) z) u

  -- Each refusal of figures exactly in its case.
  pub figures_refusals : {n p : ℕ} → Figures s j ns T U m (refused n p) ↔ (FiguresRefused s j ns T m n p × (U ≡ T))
  figures_refusals = (figures_case, λ x. case_figures x.0 x.1)

-- Where a case is given, figures answers with it and with nothing else; so no input has two refusals.
pub refusal_exact : {s j ns T U : List ℕ} {m n p : ℕ} {a : Result (List Record)} → FiguresRefused s j ns T m n p → Figures s j ns T U m a ↔ ((U ≡ T) × (a ≡ refused n p))
refusal_exact {s} {j} {ns} {T} {U} {m} x = (λ y. figures_one y (case_figures {U = T} x refl), λ y. subst (Figures s j ns T U m) (sym y.1) (case_figures x y.0))

-- With all that is lent right, a refusal is a text's.
pub refused_by_text : {s j ns T : List ℕ} {m n q : ℕ} {k : Contents} → LentRight s T m k → LengthsFit ns (length j) → FiguresRefused s j ns T m n q
    → (i : ℕ) × (p : ℕ) × FirstRefused s k ns j i n p × (q ≡ start_of ns i + p)
refused_by_text {s} x f (up_to_nine e) = absurd (accepted_refused (sym (in_sheet_text s x.sheet) ∙ check_off s e))
refused_by_text {s} {T = T} x f (fifteen e l) = absurd (l (subst (λ (c : Contents). length T ≡ table_words (meant c)) (same_sheet x.sheet e) x.long))
refused_by_text {s} {m = m} x f (eighteen e l h) = absurd (h (subst (λ (c : Contents). m ≡ length c.places) (same_sheet x.sheet e) x.many))
refused_by_text x f (nineteen y o) = ⊎_elim (λ l. absurd (omega (arith, l, f.few))) (λ e. absurd (e f.whole)) o
refused_by_text {s} {j} {ns} x f (of_a_text {i = i} {n = n} {p = p} y g o) = (i, p, subst (λ (c : Contents). FirstRefused s c ns j i n p) (same_sheet y.sheet x.sheet) o, refl)
