-- Runs one after the other: what the first i runs have left in the work table and the records, one run more, and all of them. Assumes what each law states.
use mathlib.Core.Path.{◌≡◌, refl, sym, ap, ◌∙◌, subst}
use mathlib.Core.List.{List, [], ◌∷◌, ◌++◌}
use Prim.Native.Nat.{ℕ, ◌+◌, ◌<◌}
use native.Mathlib.Numerals.{add-one}
use native.Mathlib.Omega.{arith}
use lib.ListN.{length, get_or, take, length-append}
use lib.Seq.{take-suc, take-length}
use Rattle.spec_tilco.specs.Inference.{Mark}
use Rattle.spec_tilco.specs.Table.{words, Standing, Answer}
use Rattle.read_sheet.specs.Sheet.{Contents, meant}
use Rattle.open_sheet.specs.SheetIn.{blank}
use Rattle.list_order.specs.Order.{in_order_lem}
use Rattle.list_order.proofs.Sorting.{order_long, order_within}
use Rattle.list_signals.specs.Signals.{Answers}
use Rattle.spec_figures.specs.Figures.{Each, last_or, Closed, AnswersOf, Ran}
use Rattle.figure_run.specs.RecordWords.{records_in}
use Rattle.figure_run.specs.RunCounts.{RunCounted}
use Rattle.figure_run.proofs.Told.{ToldOf, started_told, counted_told}
use Rattle.figure_runs.specs.Runs.{FreshRecords}

-- ---- lists

each_snoc : {A B : Type 0} (R : A → B → Type 0) (xs : List A) (ys : List B) {x : A} {y : B} → Each R xs ys → R x y → Each R (xs ++ x ∷ []) (ys ++ y ∷ [])
each_snoc R [] [] e r = (r, tt)
each_snoc R [] (y ∷ ys) e r = absurd e
each_snoc R (x ∷ xs) [] e r = absurd e
each_snoc R (x ∷ xs) (y ∷ ys) e r = (e.0, each_snoc R xs ys e.1 r)

last_snoc : {A : Type 0} (d : A) (xs : List A) {x : A} → last_or d (xs ++ x ∷ []) ≡ x
last_snoc d [] = refl
last_snoc d (y ∷ ys) = last_snoc y ys

-- ---- the runs

-- What the first i runs have left in the table T and the words ws.
pub record RunsTo (k : Contents) (names : List (List ℕ)) (mss : List (List Mark)) (i : ℕ) (T ws : List ℕ) : Type 0 where
  pub tables : List (List ℕ)
  pub answers : List (ℕ → ℕ → Answer)
  pub closed : Each (Closed k) (take i mss) tables
  pub asked : Each (AnswersOf k) tables answers
  pub many : length answers ≡ i
  pub last_is : 0 < i → T ≡ last_or (blank k) tables
  pub told : Each (ToldOf k.window answers) (in_order_lem names) (records_in ws (length k.places))

module _ (k : Contents) (names : List (List ℕ)) (mss : List (List Mark)) (same : length names ≡ length k.places) where
  -- Before the first run,
  abbrev pub runs_start : {T ws : List ℕ} → FreshRecords (in_order_lem names) ws → RunsTo k names mss 0 T ws
  runs_start {T} {ws} f = record {
    tables = [];
    answers = [];
    closed = tt;
    asked = tt;
    many = refl;
    last_is = λ h. absurd (omega arith);
    told = subst (λ (m : ℕ). Each (ToldOf k.window []) (in_order_lem names) (records_in ws m)) (order_long names ∙ same) (started_told k.window (in_order_lem names) ws ws (record { size = refl; each = f }));
  }

  -- with one run more, whose table is U,
  pub runs_more : {i : ℕ} {T U ws ws' : List ℕ} {f : ℕ → ℕ → Answer} → i < length mss → RunsTo k names mss i T ws → Closed k (get_or mss i []) U → AnswersOf k U f
      → RunCounted (length k.places) (words k.window) k.window U ws ws' → RunsTo k names mss (i + 1) U ws'
  runs_more {i} {T} {U} {ws} {ws'} {f} l r c a n = record {
    tables = r.tables ++ U ∷ [];
    answers = r.answers ++ f ∷ [];
    closed = subst (λ (xs : List (List Mark)). Each (Closed k) xs (r.tables ++ U ∷ [])) (sym (ap (λ (n : ℕ). take n mss) (add-one i) ∙ take-suc mss i [] l)) (each_snoc (Closed k) (take i mss) r.tables r.closed c);
    asked = each_snoc (AnswersOf k) r.tables r.answers r.asked a;
    many = length-append r.answers (f ∷ []) ∙ ap (λ (n : ℕ). n + 1) r.many;
    last_is = λ h. sym (last_snoc (blank k) r.tables);
    told = counted_told (length names) (length k.places) (words k.window) k.window U ws ws' (in_order_lem names) r.answers f (sym (order_long names ∙ same)) (order_within names)
        (subst (λ (m : ℕ). Answers (Standing (meant k) U) m k.window f) (sym same) a) n r.told;
  }

  -- and after the last.
  pub runs_all : {i : ℕ} {T ws : List ℕ} → i ≡ length mss → (r : RunsTo k names mss i T ws) → T ≡ last_or (blank k) r.tables → Ran k names mss T (records_in ws (length k.places))
  runs_all {i} {T} {ws} e r last = record {
    tables = r.tables;
    answers = r.answers;
    closed = subst (λ (xs : List (List Mark)). Each (Closed k) xs r.tables) (ap (λ (n : ℕ). take n mss) e ∙ take-length mss) r.closed;
    asked = r.asked;
    last_is = last;
    told = r.told;
  }
