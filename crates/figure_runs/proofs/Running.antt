-- One run: what putting and closing need of a cleared table, and that the closed table is the run's. Assumes what each section states.
use mathlib.Core.Path.{◌≡◌, sym, ap, ◌∙◌, subst}
use mathlib.Core.Bool.{Bool, true}
use mathlib.Core.List.{List}
use mathlib.Core.Logic.{◌↔◌}
use Prim.Native.Nat.{ℕ, ◌*◌, ◌≤◌, ◌<◌}
use native.Mathlib.Omega.{arith}
use lib.ListN.{length, get_or, length-replicate}
use Rattle.read_bytes.specs.Read.Read.{got}
use Rattle.read_bytes.proofs.Answers.{same_value}
use Rattle.read_names.specs.Spellings.{names_at}
use Rattle.read_index.specs.Index.{places_in}
use Rattle.spec_ticks.specs.Ticks.{empty}
use Rattle.spec_ticks.proofs.Tables.{empty_bare}
use Rattle.spec_tilco.specs.Inference.{Mark, mark, Clash}
use Rattle.spec_tilco.specs.Lowering.{row_count_lem}
use Rattle.spec_tilco.specs.Table.{words, Stands, Standing, table_words, Added}
use Rattle.table_marks.specs.Puts.{Puts}
use Rattle.read_sheet.specs.Sheet.{Contents, meant}
use Rattle.read_readings.specs.Readings.{readings}
use Rattle.read_readings.specs.TakeReadings.{CanTake}
use Rattle.read_readings.proofs.Outcomes.{AcceptedAs}
use Rattle.close_table.specs.Closes.{ClosesWithTops}
use Rattle.close_parents.specs.Links.{Linked}
use Rattle.close_list.specs.Workable.{Workable}
use Rattle.close_list.proofs.Workable.{with_lists}
use Rattle.open_sheet.specs.SheetIn.{blank}
use Rattle.open_table.specs.Opens.Opens.{both}
use Rattle.open_table.specs.OpenedTable.{OpenedTable}
use Rattle.spec_operations.proofs.Determined.{one_sheet}
use Rattle.spec_operations.proofs.Opened.{some_window, some_words, to_contents}
use Rattle.op_add.specs.WorkLists.{ListFor}
use Rattle.op_add.proofs.Outcomes.{names_fit, close_asks, made}
use Rattle.spec_figures.specs.Figures.{Closed}
use Rattle.figure_runs.specs.declared.runs.Sizes.{Sizes}
use Rattle.figure_runs.specs.Runs.{Runnable, LongFor, RunsText}

module _ {s names B tops D T : List ℕ} {z : Sizes} (r : Runnable s names B tops z D T) where
  abbrev k : Contents
  k = r.opened.sheet.contents

  -- The table has the sheet's length.
  pub length_is : length T ≡ table_words (meant k)
  length_is =
      let o = r.opened in
      r.long ∙ ap (λ (c : ℕ). 2 * c * z.n) o.sheet.rows ∙ ap (λ (n : ℕ). 2 * row_count_lem (meant k) * n) (o.words_are ∙ ap words o.sheet.window_is)

  -- What the text holds, by the names and the window at hand.
  pub text_reads : (text : List ℕ) {ms : List Mark} {q : ℕ} → readings (names_at s k.places) k.window text ≡ got ms q → readings (names_at s (places_in names)) z.window text ≡ got ms q
  text_reads text {ms} {q} e =
      subst (λ (p : List ℕ). readings (names_at s p) z.window text ≡ got ms q) (sym r.opened.sheet.names_are)
      (subst (λ (w : ℕ). readings (names_at s k.places) w text ≡ got ms q) (sym r.opened.sheet.window_is) e)

  module _ (T₁ : List ℕ) (cleared : T₁ ≡ empty (length T)) where
    blank_is : T₁ ≡ blank k
    blank_is = cleared ∙ ap empty length_is

    -- The cleared table is accepted with the sheet.
    abbrev opened : OpenedTable s T₁ (places_in names) B tops z.window z.tops z.count
    opened = record {
      sheet = r.opened.sheet;
      table = both r.opened.sheet.holds (ap length blank_is ∙ length-replicate {A = ℕ} (table_words (meant k)) 0)
          (λ x t v i. absurd (empty_bare 64 (words k.window) (table_words (meant k)) x t v (subst (λ (X : List ℕ). Standing (meant k) X (mark x t v)) blank_is i)));
    }

    -- The readings can be put into it,
    pub can_take : CanTake s names z.window z.n T₁
    can_take =
        let w = some_window opened z.n r.opened.words_are in
        record { index = r.opened.index; some = w.0; ticks = omega (arith, w.1); covered = (some_words opened z.n r.opened.words_are).cover; room = (names_fit names opened z.n r.opened.words_are).1 }

    module _ (text : List ℕ) (ms : List Mark) (q : ℕ) (e : readings (names_at s k.places) k.window text ≡ got ms q) (T₂ : List ℕ) (p : Puts z.n ms T₁ T₂) where
      abbrev taken : AcceptedAs (readings (names_at s (places_in names)) z.window text) z.n T₁ T₂
      taken = record { marks = ms; place = q; all = text_reads text e; puts = p }

      -- the table can be closed then, with lists of parents that are made,
      pub can_close : {H N : List ℕ} → Linked z.count B H N
          → Workable z.count z.n z.window B H N D T₂ × ((z.tops ≤ length tops) × ((i : ℕ) → i < z.tops → get_or tops i 0 < z.count))
      can_close l =
          let asks = close_asks opened z.n r.opened.words_are text T₂ taken D (subst (λ (m : ℕ). ListFor m (length D)) (sym (ap length cleared ∙ length-replicate {A = ℕ} (length T) 0)) r.list) in
          (with_lists l asks.0, asks.1)

      module _ (U : List ℕ) (c : ClosesWithTops z.count B tops z.tops z.window z.n T₂ U) where
        closed : Closed k ms U
        closed = subst (λ (X : List ℕ). Added (meant k) X ms U) blank_is (made opened z.n r.opened.words_are text T₂ taken U c)

        pub closed_long : LongFor z U
        closed_long = closed.size ∙ length-replicate {A = ℕ} (table_words (meant k)) 0 ∙ sym length_is ∙ r.long

        -- and what it is closed to is the run's table.
        pub runs_text_lem : (clash : Bool) → (clash ≡ true) ↔ Clash (Stands z.n U) → RunsText s text U clash
        runs_text_lem clash t l f ns h =
            let o : k ≡ l = one_sheet r.opened.sheet.holds f in
            let same : ms ≡ ns = same_value (sym e ∙ subst (λ (x : Contents). readings (names_at s x.places) x.window text ≡ got ns h.0) (sym o) h.1) in
            let told : (clash ≡ true) ↔ Clash (Standing (meant k) U) = to_contents opened z.n r.opened.words_are (λ p v m. (clash ≡ true) ↔ Clash (Stands m U)) t in
            subst (λ (x : Contents). Closed x ns U × ((clash ≡ true) ↔ Clash (Standing (meant x) U))) o (subst (λ (x : List Mark). Closed k x U) same closed, told)
