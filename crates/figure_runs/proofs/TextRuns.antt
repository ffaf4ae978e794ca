-- The texts run in turn, over the sheet that is opened: what the next run needs, and what it leaves. Assumes that all texts can be run.
use mathlib.Core.Path.{◌≡◌, refl, sym, ap, ◌∙◌, subst}
use mathlib.Core.Bool.{Bool, true}
use mathlib.Core.List.{List, []}
use mathlib.Core.Logic.{◌↔◌}
use Prim.Native.Nat.{ℕ, ◌+◌, ◌-◌, ◌*◌, ◌<◌, ◌≤◌}
use native.Mathlib.Nat.{mul-le-mul_right}
use native.Mathlib.Omega.{arith}
use lib.ListN.{length, get_or, take, drop, length-replicate}
use Rattle.spec_limits.specs.Limits.{most_runs, most_signals}
use Rattle.spec_ticks.specs.Ticks.{empty}
use Rattle.spec_ticks.proofs.Tables.{empty_bare}
use Rattle.read_names.specs.Spellings.{names_at}
use Rattle.read_names.proofs.Names.{names_many}
use Rattle.read_index.specs.Index.{places_in}
use Rattle.spec_tilco.specs.Inference.{Mark, Clash}
use Rattle.spec_tilco.specs.Lowering.{row_count_lem}
use Rattle.spec_tilco.specs.Table.{words, Standing, table_words, Inside, Answer}
use Rattle.spec_tilco.proofs.Lists.{all_weaker}
use Rattle.spec_tilco.proofs.Order.{row_count}
use Rattle.spec_tilco.proofs.Demand2.{added_inside}
use Rattle.table_words.specs.WordTicks.{HasRow}
use Rattle.read_sheet.specs.Sheet.{Contents, meant}
use Rattle.read_readings.proofs.Bounds.{readings_of_sheet}
use Rattle.open_sheet.specs.Results.{accepted}
use Rattle.open_sheet.specs.SheetIn.{sheet_in, names_in}
use Rattle.open_table.proofs.Tables.{InSheet, in_sheet, RowWords, row_words}
use Rattle.op_add.specs.WorkLists.{ListFor}
use Rattle.list_order.specs.Order.{in_order_lem}
use Rattle.list_order.proofs.Sorting.{order_long, order_within}
use Rattle.list_signals.specs.Signals.{Listable}
use Rattle.list_signals.proofs.Answered.{answers_there}
use Rattle.spec_figures.specs.Texts.{texts_in}
use Rattle.spec_figures.specs.Figures.{Closed, AnswersOf}
use Rattle.figure_run.specs.RecordWords.{record_words}
use Rattle.figure_run.specs.RunCounts.{CanCount, RunCounted}
use Rattle.figure_run.proofs.Told.{can_count}
use Rattle.figure_texts.specs.Notes.{text_at, sum_to, NotesAt}
use Rattle.figure_texts.proofs.Cutting.{part_lent}
use Rattle.figure_texts.proofs.OneText.{as_many, one_text_holds, one_text_notes}
use Rattle.figure_runs.specs.declared.runs.Sizes.{Sizes}
use Rattle.figure_runs.specs.Runs.{Runnable, AllRunnable, OfSheet, Holds, RunsText, AllHold, RunsTexts, FreshRecords}
use Rattle.figure_runs.proofs.Running.{length_is}
use Rattle.figure_runs.proofs.OpenedSheets.{of_sheet, to_hand, of_hand, names_are, read_of_sheet}
use Rattle.figure_runs.proofs.Loop.{RunsTo, runs_start, runs_more, runs_all}

-- ---- a run of a sheet that is accepted

module _ (s : List ℕ) (k : Contents) (holds : sheet_in s ≡ accepted k) where
  known : InSheet s k
  known = in_sheet s holds

  spread : RowWords k.window (words k.window)
  spread = row_words known.sizes.window_low known.sizes.window_high refl

  module _ (text : List ℕ) {ms : List Mark} {U : List ℕ} {clash : Bool} (h : Holds s text k ms) (c : Closed k ms U) (t : (clash ≡ true) ↔ Clash (Standing (meant k) U)) where
    long : length U ≡ table_words (meant k)
    long = c.size ∙ length-replicate {A = ℕ} (table_words (meant k)) 0

    -- No mark of its table is outside the window,
    inside : Inside k.window (Standing (meant k) U)
    inside =
        added_inside (meant k) (λ x u v i. absurd (empty_bare 64 (words k.window) (table_words (meant k)) x u v i))
        (readings_of_sheet (meant k) (names_in s k) text known.sizes.window_low (names_many s k.places) h.1) c

    -- each signal has a row there,
    has_row : (x : ℕ) → x < length k.places → HasRow (words k.window) U x
    has_row x l =
        let b : 2 * (x + 1) * words k.window ≤ 2 * row_count_lem (meant k) * words k.window = mul-le-mul_right (words k.window) (omega (arith, row_count (meant k))) in
        omega (arith, long)

    listable : Listable (length k.places) k.window (words k.window) U clash
    listable =
        let b : 2 * length k.places * words k.window ≤ 2 * row_count_lem (meant k) * words k.window = mul-le-mul_right (words k.window) (omega (arith, row_count (meant k))) in
        record { rows = omega (arith, long); ticks = omega (arith, spread.cover); clashes = t }

    -- and ask answers each of its cells.
    pub answered : (f : ℕ → ℕ → Answer) × AnswersOf k U f
    answered = ((λ x. (answers_there listable x).0), λ x l. (answers_there listable x).1)

    -- It can be counted, if the runs before it were fewer than 64.
    pub countable : {mss : List (List Mark)} {i : ℕ} {T ws : List ℕ} → RunsTo k (names_in s k) mss i T ws → i < most_runs → record_words * most_signals ≤ length ws
        → CanCount (length k.places) (words k.window) k.window U clash ws
    countable {ws = ws} r few room =
        let same : length (in_order_lem (names_in s k)) ≡ length k.places = order_long (names_in s k) ∙ names_many s k.places in
        can_count (length k.places) (words k.window) k.window U ws (in_order_lem (names_in s k)) clash r.answers (sym same) r.told (omega (arith, r.many)) known.sizes.window_high
        (all_weaker (λ x. x < length (names_in s k)) (HasRow (words k.window) U) (λ x l. has_row x (omega (arith, names_many s k.places))) (in_order_lem (names_in s k)) (order_within (names_in s k)))
        (omega (arith, spread.cover)) spread.most inside t (omega (arith, known.sizes.signals_high)) known.sizes.signals_high

-- ---- all texts

-- What the first i runs have left, whatever the sheet and the texts hold.
abbrev pub Reached : List ℕ → List ℕ → List ℕ → ℕ → List ℕ → List ℕ → Type 0
Reached s j ns i T ws = OfSheet s (λ k. (mss : List (List Mark)) → AllHold s j ns k mss → RunsTo k (names_in s k) mss i T ws)

module _ {s names B tops j ns nt cs H N D T ws : List ℕ} {z : Sizes} (a : AllRunnable s names B tops z j ns nt cs H N D T ws) where
  abbrev k : Contents
  k = a.one.opened.sheet.contents

  abbrev holds : sheet_in s ≡ accepted k
  holds = a.one.opened.sheet.holds

  -- The texts' marks.
  all_hold : AllHold s j ns k a.marks
  all_hold = (a.place, read_of_sheet a.one.opened (texts_in ns j) a.hold k holds)

  -- Other words in the table and the list of work change nothing of that.
  pub still_runnable : {D' T' : List ℕ} → length D' ≡ length D → length T' ≡ length T → Runnable s names B tops z D' T'
  still_runnable {D'} {T'} d t = record {
    opened = a.one.opened;
    long = t ∙ a.one.long;
    list = subst (λ (m : ℕ). ListFor m (length D')) (sym t) (subst (ListFor (length T)) (sym d) a.one.list);
  }

  fresh_start : {X : List ℕ} (mss : List (List Mark)) → RunsTo k (names_in s k) mss 0 X ws
  fresh_start mss = runs_start k (names_in s k) mss (names_many s k.places) (subst (λ (l : List (List ℕ)). FreshRecords (in_order_lem l) ws) (names_are a.one.opened) a.fresh)

  -- Before the first run.
  pub reached_start : {X : List ℕ} → Reached s j ns 0 X ws
  reached_start {X} = of_sheet a.one.opened (λ l. (mss : List (List Mark)) → AllHold s j ns l mss → RunsTo l (names_in s l) mss 0 X ws) (λ mss h. fresh_start mss)

  -- Without a text the table is the empty one.
  pub reached_none : {X : List ℕ} → length ns ≡ 0 → X ≡ empty (length T) → OfSheet s (λ l. (mss : List (List Mark)) → AllHold s j ns l mss → RunsTexts s mss X ws l)
  unfolding fresh_start
  reached_none {X} none cleared =
      of_sheet a.one.opened (λ l. (mss : List (List Mark)) → AllHold s j ns l mss → RunsTexts s mss X ws l)
      (λ mss h. runs_all k (names_in s k) mss (names_many s k.places) (omega (arith, as_many (names_in s k) k.window 0 ns j h.1)) (fresh_start mss) (cleared ∙ ap empty (length_is a.one)))

  module _ {i at start : ℕ} (h : i < length ns) (at-is : at ≡ sum_to ns i) (start_is : start ≡ sum_to cs i) where
    -- The next text, as it is lent, and its notes.
    abbrev text : List ℕ
    text = take (at + get_or ns i 0 - at) (drop at j)

    text_is : text ≡ text_at ns j i
    text_is = part_lent j at (get_or ns i 0) ∙ ap (λ (p : ℕ). take (get_or ns i 0) (drop p j)) at-is

    abbrev notes : List ℕ
    notes = take (start + get_or cs i 0 - start) (drop start nt)

    notes_are : notes ≡ take (get_or cs i 0) (drop (sum_to cs i) nt)
    notes_are = part_lent nt start (get_or cs i 0) ∙ ap (λ (p : ℕ). take (get_or cs i 0) (drop p nt)) start_is

    pub next_notes : NotesAt (names_at s (places_in names)) z.window text notes 0 (length notes)
    next_notes =
        subst (λ (x : List ℕ). NotesAt (names_at s (places_in names)) z.window text x 0 (length x)) (sym notes_are)
        (subst (λ (x : List ℕ). NotesAt (names_at s (places_in names)) z.window x (take (get_or cs i 0) (drop (sum_to cs i) nt)) 0 (length (take (get_or cs i 0) (drop (sum_to cs i) nt)))) (sym text_is) (one_text_notes (a.notes i h)))

    -- What it holds.
    holds_one : {mss : List (List Mark)} → AllHold s j ns k mss → Holds s text k (get_or mss i [])
    holds_one {mss} e = subst (λ (x : List ℕ). Holds s x k (get_or mss i [])) (sym text_is) (one_text_holds (names_in s k) k.window 0 ns j e.1 i h)

    pub next_holds : OfSheet s (λ l. (ms : List Mark) × Holds s text l ms)
    next_holds = of_sheet a.one.opened (λ l. (ms : List Mark) × Holds s text l ms) (get_or a.marks i [], holds_one all_hold)

    module _ {X U us : List ℕ} {clash : Bool} {m : ℕ} (many : m ≡ length (places_in names)) (x : Reached s j ns i X us) (r : RunsText s text U clash) where
      -- Its run can be counted,
      pub next_countable : record_words * most_signals ≤ length us → CanCount m z.n z.window U clash us
      next_countable room =
          let y = r k holds (get_or a.marks i []) (holds_one all_hold) in
          to_hand a.one.opened (λ w n c. CanCount c n w U clash us) many (countable s k holds text (holds_one all_hold) y.0 y.1 (x k holds a.marks all_hold) (omega (arith, a.fit.few)) room)

      -- and then one run more is reached.
      pub reached_more : {us' : List ℕ} → RunCounted m z.n z.window U us us' → Reached s j ns (i + 1) U us'
      reached_more {us'} n =
          of_sheet a.one.opened (λ l. (mss : List (List Mark)) → AllHold s j ns l mss → RunsTo l (names_in s l) mss (i + 1) U us')
          (λ mss e. let y = r k holds (get_or mss i []) (holds_one e) in
          runs_more k (names_in s k) mss (names_many s k.places) (omega (arith, as_many (names_in s k) k.window 0 ns j e.1)) (x k holds mss e) y.0
          (answered s k holds text (holds_one e) y.0 y.1).1 (of_hand a.one.opened (λ w n c. RunCounted c n w U us us') many n))

  -- After the last run.
  pub reached_all : {i : ℕ} {X us : List ℕ} → i ≡ length ns → 0 < i → Reached s j ns i X us → OfSheet s (λ l. (mss : List (List Mark)) → AllHold s j ns l mss → RunsTexts s mss X us l)
  reached_all {i} {X} {us} e some x =
      of_sheet a.one.opened (λ l. (mss : List (List Mark)) → AllHold s j ns l mss → RunsTexts s mss X us l)
      (λ mss h. let r = x k holds mss h in
      runs_all k (names_in s k) mss (names_many s k.places) (e ∙ sym (as_many (names_in s k) k.window 0 ns j h.1)) r (r.last_is some))
