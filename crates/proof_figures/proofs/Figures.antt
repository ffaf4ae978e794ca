-- What the user asks of figures (E1), sentence by sentence, over its promise on texts and tables.
-- Assumes nothing that is not written in a statement. `s` is the sheet's text and k its contents, j the joined readings texts, ns their lengths, T the work table before and U
-- after, m how many records are lent, rs the records.
use mathlib.Core.Path.{◌≡◌, refl, subst}
use mathlib.Core.Bool.{Bool, true, false}
use mathlib.Core.List.{List, [], ◌∷◌, map, Memᴰ}
use mathlib.Core.Logic.{◌↔◌}
use Prim.Native.Nat.{ℕ, suc, ◌+◌, ◌*◌, ◌<◌}
use native.Mathlib.Omega.{arith}
use lib.IntN.{pos}
use lib.ListN.{length}
use Rattle.spec_limits.specs.Limits.{most_bytes}
use Rattle.spec_tilco.specs.Inference.{Mark}
use Rattle.spec_tilco.specs.Meaning.{History, Obeys}
use Rattle.spec_tilco.specs.Table.{Contradiction}
use Rattle.read_sheet.specs.Sheet.{Contents, meant}
use Rattle.open_sheet.specs.Results.{Result, accepted, refused}
use Rattle.open_sheet.specs.SheetIn.{names_in, blank}
use Rattle.spec_operations.specs.Gain.{Gain, gain}
use Rattle.spec_operations.specs.Operations.{checked, Adds}
use Rattle.list_order.specs.Order.{in_order_lem, Ordered}
use Rattle.proof_demands.specs.Refusals.{SheetAccepted, ReadingsAccepted}
use Rattle.proof_demands.specs.Runs.{AgreesWith, valued}
use Rattle.spec_figures.specs.declared.Record.{Record}
use Rattle.spec_figures.specs.Records.{ticks_of, Settles, Tells}
use Rattle.spec_figures.specs.Texts.{LengthsFit}
use Rattle.spec_figures.specs.Figures.{Figures}
use Rattle.spec_figures.proofs.Clashing.{ClashCounts}
use Rattle.spec_figures.proofs.Determined.{figures_one}
use Rattle.proof_figures.specs.FigureCases.{start_of, text_at, FirstRefused, LentRight, FiguresRefused}
use Rattle.proof_figures.specs.FigureCases.TextRefused.{ten}
use Rattle.proof_figures.specs.FigureCases.FiguresRefused.{up_to_nine, of_a_text}
use Rattle.proof_figures.specs.SingleRuns.{OneRun, RunByRun, FirstSettled}
use Rattle.proof_figures.proofs.Refusals.{figures_refusals, refusal_exact, refused_by_text}
use Rattle.proof_figures.proofs.Some.{figures_some}
use Rattle.proof_figures.proofs.Runs.{run_by_run}
use Rattle.proof_figures.proofs.EachRecord.{ends_cleared, ends_last, signals_are, records_ordered, records_many, record_tells, columns_add_up}
use Rattle.proof_figures.proofs.Sound.{clash_columns, no_clash_column, counted_holds, counted_clash, run_no_clash, settled_holds}
use Rattle.proof_figures.proofs.EarliestTick.{first_settled}

-- ---- one answer

-- Every input gets an answer and a work table, and no other.
pub figures_answers : (s j ns T : List ℕ) (m : ℕ) → (U : List ℕ) × (a : Result (List Record)) × Figures s j ns T U m a
figures_answers = figures_some

pub figures_no_other : {s j ns T U U' : List ℕ} {m : ℕ} {a a' : Result (List Record)} → Figures s j ns T U m a → Figures s j ns T U' m a' → (U ≡ U') × (a ≡ a')
figures_no_other x y = figures_one x y

-- ---- refusals

-- "Refusals: after 9, 15 for the work table, then 18 .., then 19 .., then each text's own in turn": each exactly in its case, and the work table keeps every word.
pub figures_refuses : {s j ns T U : List ℕ} {m n p : ℕ} → Figures s j ns T U m (refused n p) ↔ (FiguresRefused s j ns T m n p × (U ≡ T))
figures_refuses = figures_refusals

-- Where a case is given, figures answers with it and with nothing else,
pub refuses_only : {s j ns T U : List ℕ} {m n p : ℕ} {a : Result (List Record)} → FiguresRefused s j ns T m n p → Figures s j ns T U m a ↔ ((U ≡ T) × (a ≡ refused n p))
refuses_only x = refusal_exact x

-- what check refuses first of all,
pub check_refuses : {s j ns T U : List ℕ} {m n p : ℕ} {a : Result (List Record)} → checked s ≡ refused n p → Figures s j ns T U m a ↔ ((U ≡ T) × (a ≡ refused n p))
check_refuses e = refusal_exact (up_to_nine e)

-- and last a text's own. "All texts are checked before the first run; a text's refusal has its place counted in the joined slice": the first text that is refused, at its own
-- place after the lengths before it.
pub text_refuses : {s j ns T U : List ℕ} {m i n p : ℕ} {k : Contents} {a : Result (List Record)} → LentRight s T m k → LengthsFit ns (length j) → FirstRefused s k ns j i n p
    → Figures s j ns T U m a ↔ ((U ≡ T) × (a ≡ refused n (start_of ns i + p)))
text_refuses x f o = refusal_exact (of_a_text x f o)

pub refuses_text : {s j ns T U : List ℕ} {m n q : ℕ} {k : Contents} → LentRight s T m k → LengthsFit ns (length j) → Figures s j ns T U m (refused n q)
    → (i : ℕ) × (p : ℕ) × FirstRefused s k ns j i n p × (q ≡ start_of ns i + p)
refuses_text x f y = refused_by_text x f (figures_refusals.0 y).0

-- A text over 32,768 bytes is refused by 10 at its first byte.
pub long_text : {s j ns T : List ℕ} {m i : ℕ} {k : Contents} → LentRight s T m k → LengthsFit ns (length j) → i < length ns → most_bytes < length (text_at ns j i)
    → ((h : ℕ) → h < i → (ms : List Mark) × ReadingsAccepted s k (text_at ns j h) ms) → Figures s j ns T T m (refused 10 (start_of ns i))
long_text {s} {j} {ns} {T} {m} {i} x f l o before =
    let z : start_of ns i + 0 ≡ start_of ns i = omega arith in
    subst (λ (p : ℕ). Figures s j ns T T m (refused 10 p)) z (figures_refusals.1 (of_a_text x f (record { among = l; refuses = ten o; before = before }), refl))

-- ---- the runs

-- "Over up to 64 readings texts run against one sheet"; "a lent work table is cleared before each run and ends as the last run's closed table": the answer is what add and ask tell,
-- a run by itself on the sheet's empty table for each text.
pub figures_by_runs : {s j ns T U : List ℕ} {m : ℕ} {rs : List Record} → Figures s j ns T U m (accepted rs) ↔ RunByRun s j ns T U m rs
figures_by_runs = run_by_run

module _ {s j ns T U : List ℕ} {m : ℕ} {rs : List Record} (x : RunByRun s j ns T U m rs) where
  -- "Ends as the last run's closed table
  pub ends_as_last : (i : ℕ) → suc i ≡ length ns → (g : Gain) × Adds s (text_at ns j i) (blank x.contents) U (accepted g)
  ends_as_last = ends_last x

  -- (cleared if none)."
  pub ends_as_empty : length ns ≡ 0 → U ≡ blank x.contents
  ends_as_empty = ends_cleared x

  -- "Fill a lent list of records, one for each signal",
  pub one_for_each : (length rs ≡ m) × (map (λ r. r.signal) rs ≡ in_order_lem (names_in s x.contents))
  one_for_each = (records_many x, signals_are x)

  -- in the listing's order (E8).
  pub in_listing_order : Ordered (names_in s x.contents) (map (λ r. r.signal) rs)
  in_listing_order = records_ordered x

  module _ {r : Record} (i : Memᴰ r rs) where
    -- "How many ticks each signal was true, false and unsettled": over all runs, by what ask answers in each.
    pub record_counts : (r.signal < length x.contents.places) × Tells x.contents.window r.signal (map (λ z. z.answer r.signal) x.runs) r
    record_counts = record_tells x i

    -- "And the earliest tick settled in any run without a clash, or none."
    pub record_first : FirstSettled s x.contents x.runs r.signal r.first
    record_first = let d = record_tells x i in first_settled x.right.sheet r.signal d.0 x.runs d.1.first_is

    -- "The four add up to window times runs."
    pub four_add_up : r.held + r.failed + r.unsettled + r.clashed ≡ x.contents.window * length ns
    four_add_up = columns_add_up x i

module _ {s : List ℕ} {k : Contents} (accepts : SheetAccepted s k) (z : OneRun s k) where
  -- "A run that clashes counts its whole window in a fourth column and nothing in the other three",
  pub clashing_run : {new : ℕ} → z.gained ≡ gain new true → (x : ℕ) → x < length k.places → ClashCounts k.window (z.answer x)
  clashing_run = clash_columns accepts z

  -- and another run nothing in the fourth.
  pub other_run : {new : ℕ} → z.gained ≡ gain new false → (x : ℕ) → x < length k.places → ticks_of Contradiction (z.answer x) k.window ≡ 0
  other_run = no_clash_column accepts z

  -- ---- demand 3

  module _ (h : History) (obeys : Obeys (meant k) h) (agrees : AgreesWith s k (z.text ∷ []) h) where
    -- "Every value given holds in every history that obeys the sheet at each tick of the window and agrees with the readings": a tick that counts as true in a run, or as
    -- false, is so in every history that agrees with that run's text.
    pub value_in_history : (x t : ℕ) (v : Bool) → x < length k.places → t < k.window → z.answer x t ≡ valued v → h x (pos t) ≡ v
    value_in_history = counted_holds accepts z h obeys agrees

    -- "A clash is given only where no such history exists."
    pub clash_without_history : (new : ℕ) → z.gained ≡ gain new true → ⊥
    clash_without_history = run_no_clash accepts z h obeys agrees

    pub contradiction_without_history : (x t : ℕ) → x < length k.places → t < k.window → z.answer x t ≡ Contradiction → ⊥
    contradiction_without_history = counted_clash accepts z h obeys agrees

  -- So a tick that a run settles, a record's earliest among them, has one value in all these histories.
  pub settled_in_history : (x t : ℕ) → x < length k.places → t < k.window → Settles (z.answer x t)
      → (v : Bool) × ((h : History) → Obeys (meant k) h → AgreesWith s k (z.text ∷ []) h → h x (pos t) ≡ v)
  settled_in_history = settled_holds accepts z
