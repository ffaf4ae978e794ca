-- What figures answers is what calls of add and ask tell, a run by itself for each text.
-- Assumes nothing. `s` is the sheet's text and k its contents, j the joined readings texts, ns their lengths, T the work table before and U after, m how many records are lent.
use mathlib.Core.Path.{◌≡◌, refl, sym, ap, subst, ◌∙◌}
use mathlib.Core.List.{List, [], ◌∷◌, map, map-map}
use mathlib.Core.Logic.{◌↔◌}
use Prim.Native.Nat.{ℕ}
use lib.ListN.{length}
use Rattle.read_bytes.specs.Read.Read.{got}
use Rattle.spec_tilco.specs.Inference.{Mark}
use Rattle.spec_tilco.specs.Table.{Standing, Added, Answer, Asked}
use Rattle.read_sheet.specs.Sheet.{Contents, meant}
use Rattle.read_readings.specs.Readings.{readings}
use Rattle.read_readings.proofs.Cuts.{readings_end, AllAccepted}
use Rattle.read_readings.proofs.Cuts.AllAccepted.{none, one}
use Rattle.open_sheet.specs.Results.{accepted}
use Rattle.open_sheet.specs.SheetIn.{sheet_in, names_in, blank}
use Rattle.open_table.specs.Opens.{Opens}
use Rattle.spec_operations.specs.Gain.{Gain, gain}
use Rattle.spec_operations.specs.Operations.{Asks}
use Rattle.spec_operations.specs.Operations.Adds.{added}
use Rattle.spec_operations.specs.Operations.Asks.{asked}
use Rattle.spec_operations.proofs.Determined.{opens_same}
use Rattle.list_order.specs.Order.{in_order_lem}
use Rattle.proof_demands.proofs.Refusals.{sheet_in_lem, in_sheet_text}
use Rattle.proof_demands.proofs.Runs.{Step, changed, step_of, blank_opens}
use Rattle.spec_figures.specs.declared.Record.{Record}
use Rattle.spec_figures.specs.Records.{Tells}
use Rattle.spec_figures.specs.Texts.{texts_in}
use Rattle.spec_figures.specs.Figures.{Each, last_or, Closed, AnswersOf, Figures}
use Rattle.spec_figures.specs.Figures.Figures.{figured}
use Rattle.spec_figures.proofs.EachLaws.{each_weaker}
use Rattle.proof_figures.specs.SingleRuns.{OneRun, RunByRun}
use Rattle.proof_figures.proofs.TextsInTurn.{texts_accepted, accepted_texts}
use Rattle.proof_figures.proofs.ClosedTables.{closed_opens, clash_known}

-- What an accepted call of add has read and made.
record Made (s : List ℕ) (k : Contents) (r T U : List ℕ) : Type 0 where
  marks : List Mark
  reads : readings (names_in s k) k.window r ≡ got marks (length r)
  closed : Added (meant k) T marks U

made : {s r T U : List ℕ} {k : Contents} {g : Gain} → Step s k r T U (accepted g) → Made s k r T U
made {s} {r} {k = k} (changed {ms} {q} f A n c) = record { marks = ms; reads = f ∙ ap (got ms) (readings_end (names_in s k) k.window r ms q f); closed = A }

-- What ask answers of a table that opens.
said : {s U : List ℕ} {k : Contents} {x t : ℕ} {a : Answer} → Opens s U (accepted k) → Asks s U x t (accepted a) → Asked (Standing (meant k) U) x t a
said {U = U} {x = x} {t} {a} o (asked p i u) = subst (λ (c : Contents). Asked (Standing (meant c) U) x t a) (opens_same p o) u

module _ (s : List ℕ) (k : Contents) (e : sheet_in s ≡ accepted k) where
  -- ---- a run by itself

  one_run : (r : List ℕ) {ms : List Mark} {q : ℕ} {U : List ℕ} {f : ℕ → ℕ → Answer} → readings (names_in s k) k.window r ≡ got ms q → Closed k ms U → AnswersOf k U f → OneRun s k
  one_run r {U = U} {f} h A a = record {
    text = r;
    table = U;
    gained = gain _ (clash_known s k e U).0;
    answer = f;
    adds = added (blank_opens s k e) h A refl (clash_known s k e U).1;
    asks = λ x t i l. asked (closed_opens s k e r h A) (i, l) (a x i t l);
  }

  -- What is known of it.
  run_made : (z : OneRun s k) → Made s k z.text (blank k) z.table
  run_made z = made (step_of (blank_opens s k e) z.adds)

  pub run_said : (z : OneRun s k) → AnswersOf k z.table z.answer
  run_said z x h t l = let d = run_made z in said (closed_opens s k e z.text d.reads d.closed) (z.asks x t h l)

  -- ---- all runs

  record AllRuns (texts : List (List ℕ)) (tables : List (List ℕ)) (answers : List (ℕ → ℕ → Answer)) : Type 0 where
    runs : List (OneRun s k)
    texts_are : map (λ z. z.text) runs ≡ texts
    tables_are : map (λ z. z.table) runs ≡ tables
    answers_are : map (λ z. z.answer) runs ≡ answers

  runs_of : {rs : List (List ℕ)} {mss : List (List Mark)} → AllAccepted (names_in s k) k.window rs mss → (Us : List (List ℕ)) (fs : List (ℕ → ℕ → Answer))
      → Each (Closed k) mss Us → Each (AnswersOf k) Us fs → AllRuns rs Us fs
  unfolding one_run
  runs_of none [] [] c a = record { runs = []; texts_are = refl; tables_are = refl; answers_are = refl }
  runs_of none [] (f ∷ fs) c a = absurd a
  runs_of none (U ∷ Us) fs c a = absurd c
  runs_of (one h more) [] fs c a = absurd c
  runs_of (one h more) (U ∷ Us) [] c a = absurd a
  runs_of (one {r} h more) (U ∷ Us) (f ∷ fs) c a =
      let x = runs_of more Us fs c.1 a.1 in
      record {
        runs = one_run r h c.0 a.0 ∷ x.runs;
        texts_are = ap (λ (l : List (List ℕ)). r ∷ l) x.texts_are;
        tables_are = ap (λ (l : List (List ℕ)). U ∷ l) x.tables_are;
        answers_are = ap (λ (l : List (ℕ → ℕ → Answer)). f ∷ l) x.answers_are;
      }

  -- The marks of the texts, and what the tables and answers are to them.
  record AllMade (runs : List (OneRun s k)) : Type 0 where
    marks : List (List Mark)
    accepts : AllAccepted (names_in s k) k.window (map (λ z. z.text) runs) marks
    closed : Each (Closed k) marks (map (λ z. z.table) runs)
    asked : Each (AnswersOf k) (map (λ z. z.table) runs) (map (λ z. z.answer) runs)

  all_made : (runs : List (OneRun s k)) → AllMade runs
  all_made [] = record { marks = []; accepts = none; closed = tt; asked = tt }
  all_made (z ∷ runs) =
      let d = run_made z in
      let x = all_made runs in
      record { marks = d.marks ∷ x.marks; accepts = one d.reads x.accepts; closed = (d.closed, x.closed); asked = (run_said z, x.asked) }

  -- The records are told by the runs as by their answers.
  same_answers : (runs : List (OneRun s k)) (fs : List (ℕ → ℕ → Answer)) → map (λ z. z.answer) runs ≡ fs → (x : ℕ) → map (λ z. z.answer x) runs ≡ map (λ f. f x) fs
  same_answers runs fs a x = sym (map-map (λ f. f x) (λ z. z.answer) runs) ∙ ap (map (λ f. f x)) a

module _ {s j ns T U : List ℕ} {m : ℕ} {rs : List Record} where
  by_runs : Figures s j ns T U m (accepted rs) → RunByRun s j ns T U m rs
  by_runs (figured {k} {mss} {q} e l h f r x) =
      let z = runs_of s k e (texts_accepted (names_in s k) k.window 0 (texts_in ns j) r) x.tables x.answers x.closed x.asked in
      record {
        contents = k;
        right = record { sheet = sheet_in_lem s e; long = l; many = h };
        lengths = f;
        runs = z.runs;
        texts_are = z.texts_are;
        ends = x.last_is ∙ ap (last_or (blank k)) (sym z.tables_are);
        told =
            each_weaker (λ y d. Tells k.window y (map (λ g. g y) x.answers) d) (λ y d. Tells k.window y (map (λ w. w.answer y) z.runs) d)
            (λ y d p. subst (λ (gs : List (ℕ → Answer)). Tells k.window y gs d) (sym (same_answers s k e z.runs x.answers z.answers_are y)) p) (in_order_lem (names_in s k)) rs x.told;
      }

  by_figures : RunByRun s j ns T U m rs → Figures s j ns T U m (accepted rs)
  by_figures z =
      let k = z.contents in
      let e = in_sheet_text s z.right.sheet in
      let d = all_made s k e z.runs in
      let a = accepted_texts (names_in s k) k.window 0 (subst (λ (l : List (List ℕ)). AllAccepted (names_in s k) k.window l d.marks) z.texts_are d.accepts) in
      figured e z.right.long z.right.many z.lengths a.1
      (record {
        tables = map (λ w. w.table) z.runs;
        answers = map (λ w. w.answer) z.runs;
        closed = d.closed;
        asked = d.asked;
        last_is = z.ends;
        told =
            each_weaker (λ y r. Tells k.window y (map (λ w. w.answer y) z.runs) r) (λ y r. Tells k.window y (map (λ g. g y) (map (λ w. w.answer) z.runs)) r)
            (λ y r p. subst (λ (gs : List (ℕ → Answer)). Tells k.window y gs r) (same_answers s k e z.runs (map (λ w. w.answer) z.runs) refl y) p) (in_order_lem (names_in s k)) rs z.told;
      })

  -- Figures are what the runs by themselves tell, and nothing else.
  pub run_by_run : Figures s j ns T U m (accepted rs) ↔ RunByRun s j ns T U m rs
  run_by_run = (by_runs, by_figures)
