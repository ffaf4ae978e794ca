-- The records of several signals: they tell of no run at first and of one more with each run that is counted, and one more can be counted.
-- Assumes that the signals are below m, of which the answers are told. xs are the signals, fs the answers of the runs before, f those of the next.
use mathlib.Core.Path.{◌≡◌, refl, sym, subst}
use mathlib.Core.Bool.{Bool, true}
use mathlib.Core.List.Memᴰ
use mathlib.Core.List.{List, [], ◌∷◌, ◌++◌, map, map-append}
use mathlib.Core.Logic.{◌↔◌}
use Prim.Native.Nat.{ℕ, zero, suc, ◌*◌, ◌<◌, ◌≤◌}
use native.Mathlib.Omega.{arith}
use lib.ListN.{length, get_or, length-map}
use Rattle.spec_limits.specs.Limits.{most_runs, most_signals, most_ticks}
use Rattle.spec_tilco.specs.Inference.{Clash}
use Rattle.spec_tilco.specs.Lists.{All, tab}
use Rattle.spec_tilco.specs.Table.{Stands, Inside, Answer, Unsettled, True, False, Contradiction}
use Rattle.spec_tilco.proofs.Lists.{all_nth}
use Rattle.table_marks.specs.Sizes.{most_words}
use Rattle.table_words.specs.WordTicks.{HasRow}
use Rattle.list_signals.specs.Signals.{AnswersAt, Answers}
use Rattle.spec_figures.specs.declared.Record.{Record}
use Rattle.spec_figures.specs.Figures.{Each}
use Rattle.spec_figures.specs.Records.{ticks_of, column, Tells}
use Rattle.spec_figures.specs.Records.Earliest.{none}
use Rattle.spec_figures.proofs.Columns.{ticks_add_up}
use Rattle.figure_run.specs.RecordWords.{record_words, record_in, records_in, no_runs, Started}
use Rattle.figure_run.specs.RunCounts.{Countable, CanCount, RunCounted}

-- ---- entries of a list by their places

module _ {A B : Type 0} (R : A → B → Type 0) (d : A) where
  each_of : (xs : List A) (k : ℕ) (g : ℕ → B) → k ≡ length xs → ((i : ℕ) → i < k → R (get_or xs i d) (g i)) → Each R xs (tab g k)
  each_of [] zero g e f = tt
  each_of [] (suc k) g e f = absurd (omega arith)
  each_of (x ∷ xs) zero g e f = absurd (omega arith)
  each_of (x ∷ xs) (suc k) g e f = (f 0 (omega arith), each_of xs k (λ i. g (suc i)) (omega arith) (λ i l. f (suc i) (omega arith)))

  each_at : (xs : List A) (k : ℕ) (g : ℕ → B) → Each R xs (tab g k) → (i : ℕ) → i < k → R (get_or xs i d) (g i)
  each_at [] zero g e i l = absurd (omega arith)
  each_at [] (suc k) g e i l = absurd e
  each_at (x ∷ xs) zero g e i l = absurd (omega arith)
  each_at (x ∷ xs) (suc k) g e zero l = e.0
  each_at (x ∷ xs) (suc k) g e (suc i) l = each_at xs k (λ j. g (suc j)) e.1 i (omega arith)

-- ---- before the first run

none_told : (W x : ℕ) → Tells W x [] (no_runs x)
none_told W x = record {
  signal_is = refl;
  held_is = refl;
  failed_is = refl;
  unsettled_is = refl;
  clashed_is = refl;
  first_is = none (λ t s. Memᴰ.not-nil s.1.1);
}

pub started_told : (W : ℕ) (xs ws ws' : List ℕ) → Started xs ws ws' → Each (λ x r. Tells W x [] r) xs (records_in ws' (length xs))
started_told W xs ws ws' s =
    each_of (λ x r. Tells W x [] r) 0 xs (length xs) (record_in ws') refl
    (λ i l. subst (Tells W (get_or xs i 0) []) (sym (s.each i l)) (none_told W (get_or xs i 0)))

-- ---- one more run

-- What runs with the answers fs tell of signal x.
abbrev pub ToldOf : ℕ → List (ℕ → ℕ → Answer) → ℕ → Record → Type 0
ToldOf W fs x r = Tells W x (map (λ g. g x) fs) r

pub counted_told : (m k n W : ℕ) (T ws ws' xs : List ℕ) (fs : List (ℕ → ℕ → Answer)) (f : ℕ → ℕ → Answer) → k ≡ length xs → All (λ x. x < m) xs → Answers (Stands n T) m W f
    → RunCounted k n W T ws ws' → Each (ToldOf W fs) xs (records_in ws k) → Each (ToldOf W (fs ++ f ∷ [])) xs (records_in ws' k)
counted_told m k n W T ws ws' xs fs f long below answers counted told = each_of (ToldOf W (fs ++ f ∷ [])) 0 xs k (record_in ws') long more
  where
    more : (i : ℕ) → i < k → ToldOf W (fs ++ f ∷ []) (get_or xs i 0) (record_in ws' i)
    more i l =
        let x = get_or xs i 0 in
        let r = record_in ws i in
        let old : ToldOf W fs x r = each_at (ToldOf W fs) 0 xs k (record_in ws) told i l in
        let runs : List (ℕ → Answer) = map (λ g. g x) fs in
        let step : AnswersAt (Stands n T) x W (f x) → Tells W x runs r → Tells W x (runs ++ f x ∷ []) (record_in ws' i) =
        subst (λ (y : ℕ). AnswersAt (Stands n T) y W (f x) → Tells W y runs r → Tells W y (runs ++ f x ∷ []) (record_in ws' i)) old.signal_is (counted.each i l runs (f x)) in
        rw map-append (step (answers x (all_nth (λ y. y < m) 0 xs i below (omega arith))) old)

-- ---- room for one more

ticks_few : (a : Answer) (f : ℕ → Answer) (W : ℕ) → ticks_of a f W ≤ W
ticks_few Unsettled f W = omega (arith, ticks_add_up f W)
ticks_few True f W = omega (arith, ticks_add_up f W)
ticks_few False f W = omega (arith, ticks_add_up f W)
ticks_few Contradiction f W = omega (arith, ticks_add_up f W)

column_few : (a : Answer) (W : ℕ) (runs : List (ℕ → Answer)) → W ≤ most_ticks → column a W runs ≤ most_ticks * length runs
column_few a W [] h = omega arith
column_few a W (f ∷ runs) h = omega (arith, ticks_few a f W, column_few a W runs h)

pub can_count : (k n W : ℕ) (T ws xs : List ℕ) (clash : Bool) (fs : List (ℕ → ℕ → Answer)) → k ≡ length xs → Each (ToldOf W fs) xs (records_in ws k) → length fs < most_runs → W ≤ most_ticks
    → All (λ x. HasRow n T x) xs → W ≤ n * 64 → n ≤ most_words → Inside W (Stands n T) → (clash ≡ true) ↔ Clash (Stands n T) → record_words * k ≤ length ws → k ≤ most_signals
    → CanCount k n W T clash ws
can_count k n W T ws xs clash fs long told few short rows covered words inside clashes room signals =
    record { room = room; signals = signals; each = each }
  where
    each : (i : ℕ) → i < k → Countable (record_in ws i) n W T clash
    each i l =
        let x = get_or xs i 0 in
        let old : ToldOf W fs x (record_in ws i) = each_at (ToldOf W fs) 0 xs k (record_in ws) told i l in
        let runs : List (ℕ → Answer) = map (λ g. g x) fs in
        let bound : (a : Answer) → column a W runs ≤ most_ticks * length fs = λ a. rw length-map at (column_few a W runs short) in
        record {
          row = rw old.signal_is (all_nth (HasRow n T) 0 xs i rows (omega arith));
          covered = covered;
          few = words;
          inside = inside;
          clashes = clashes;
          held_room = omega (arith, old.held_is, bound True);
          failed_room = omega (arith, old.failed_is, bound False);
          unsettled_room = omega (arith, old.unsettled_is, bound Unsettled);
          clashed_room = omega (arith, old.clashed_is, bound Contradiction);
        }
