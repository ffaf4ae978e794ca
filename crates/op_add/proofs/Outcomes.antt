-- Each answer of add, with the sheet and the table at hand, and what closing needs of them.
-- Assumes nothing.
use mathlib.Core.Path.{◌≡◌, refl, sym, ap, subst, ◌∙◌}
use mathlib.Core.Bool.{Bool, true}
use mathlib.Core.List.{List}
use mathlib.Core.Logic.{◌↔◌}
use Prim.Native.Nat.{ℕ, ◌-◌, ◌*◌, ◌^◌, ◌≤◌, ◌<◌}
use native.Mathlib.Omega.{arith}
use lib.ListN.{length, get_or, length-drop}
use Rattle.read_bytes.specs.Read.Read.{got, refused as unread}
use Rattle.read_names.specs.Spellings.{names_at}
use Rattle.read_index.specs.Index.{links, places_in, name_count}
use Rattle.spec_ticks.specs.Ticks.{Small}
use Rattle.spec_tilco.specs.Inference.{Clash}
use Rattle.spec_tilco.specs.Lowering.{program}
use Rattle.spec_tilco.specs.Table.{words, Stands, facts, facts_of, Added}
use Rattle.spec_tilco.proofs.Order.{top_is_row}
use Rattle.spec_tilco.proofs.Demand2.{added_from, added_facts}
use Rattle.table_marks.specs.Puts.{Puts}
use Rattle.read_sheet.specs.Sheet.{Contents, meant}
use Rattle.read_sheet.proofs.Accepted.{sheet_declared}
use Rattle.read_readings.specs.Readings.{readings}
use Rattle.read_readings.proofs.Bounds.{readings_within, puts_inside}
use Rattle.read_readings.proofs.Outcomes.{AcceptedAs}
use Rattle.close_table.specs.Closes.{ClosesWithTops}
use Rattle.close_list.specs.Items.{ListFits}
use Rattle.close_list.specs.Workable.{Closable}
use Rattle.close_table.proofs.Outcomes.{closed_added}
use Rattle.open_sheet.specs.Results.{accepted, refused}
use Rattle.spec_operations.specs.Gain.{gain}
use Rattle.open_sheet.specs.OpenedSheet.{OpenedSheet}
use Rattle.open_table.specs.OpenedTable.{OpenedTable}
use Rattle.spec_operations.specs.Operations.{Adds}
use Rattle.op_add.specs.WorkLists.{ListFor}
use Rattle.spec_operations.specs.Operations.Adds.{not_read, added}
use Rattle.spec_operations.proofs.Opened.{known, to_contents, some_words, table_inside, some_window, table_length, signals_few, signals_fit}

-- The names of an index are as many as its places: the table has their rows, and what is counted of them is what is counted of the places.
module _ (names : List ℕ) {s T B tops : List ℕ} {w t count : ℕ} (h : OpenedTable s T (places_in names) B tops w t count) (n : ℕ) (e : n ≡ words w) where
  pub names_fit : (1 ≤ n) × (2 * name_count names * n ≤ length T) × (2 * name_count names * n < 2 ^ 32)
  names_fit =
      let fit = signals_fit h n e in
      let many = length-drop links names in
      ((some_words h n e).some, subst (λ (k : ℕ). 2 * k * n ≤ length T) many fit.0, subst (λ (k : ℕ). 2 * k * n < 2 ^ 32) many fit.1)

pub as_facts : {x : ℕ} (n : ℕ) (names U : List ℕ) → x ≡ facts n (name_count names) U → x ≡ facts n (length (places_in names)) U
as_facts n names U e = e ∙ ap (λ (k : ℕ). facts n k U) (sym (length-drop links names))

module _ {s T places B tops : List ℕ} {w t count : ℕ} (h : OpenedTable s T places B tops w t count) (n : ℕ) (e : n ≡ words w) where
  abbrev k : OpenedSheet s places B tops w t count
  k = h.sheet

  abbrev c : Contents
  c = k.contents

  pub readings_refused : (r U : List ℕ) {a p : ℕ} → (readings (names_at s places) w r ≡ unread a p) × (U ≡ T) → Adds s r T U (refused a p)
  readings_refused r U {a} {p} f = not_read h.table (to_contents h n e (λ l v m. readings (names_at s l) v r ≡ unread a p) f.0) f.1

  list_fits : (D : List ℕ) → ListFor (length T) (length D) → ListFits count n D
  list_fits D f = record { most = (signals_few h n e).2; long = f count n (signals_few h n e).2 (some_words h n e).most (table_length h n e) }

  module _ (r T₁ : List ℕ) (a : AcceptedAs (readings (names_at s places) w r) n T T₁) where
    pub close_asks : (D : List ℕ) → ListFor (length T) (length D)
        → Closable count n w B D T₁ × ((t ≤ length tops) × ((i : ℕ) → i < t → get_or tops i 0 < count))
    close_asks D f = (
      record {
        coded = record { program = program (meant c); codes = k.codes };
        roomy = list_fits D f;
        sized = record { some = (some_window h n e).0; most = omega (arith, (some_window h n e).1); words_are = e; long = omega (arith, table_length h n e, a.puts.size) };
        inside = puts_inside (length (names_at s places)) w n (readings_within (names_at s places) w r (some_window h n e).0 a.all) (table_inside h n e) a.puts;
      },
      (k.few, λ i l. omega (arith, top_is_row (meant c) (sheet_declared s (known h n e).reads) (get_or tops i 0) (k.tops_are.given i l), k.rows)),
    )

    module _ (U : List ℕ) (z : ClosesWithTops count B tops t w n T₁ U) where
      pub made : Added (meant c) T a.marks U
      made =
          let y = to_contents h n e (λ p v m. ClosesWithTops count B tops t v m T₁ U) z (program (meant c)) k.codes k.tops_are in
          let x = to_contents h n e (λ p v m. Puts m a.marks T T₁) a.puts in
          added_from (meant c) T T₁ a.marks x.size (λ m i. (x.exactly m).0 i) (λ m i. (x.exactly m).1 i) (closed_added (meant c) T₁ U y)

      pub same_size : length U ≡ length T
      same_size = made.size

      module _ (before after : ℕ) (b : before ≡ facts n (length places) T) (f : after ≡ facts n (length places) U) where
        before_is : before ≡ facts_of (meant c) T
        before_is = b ∙ to_contents h n e (λ p v m. facts n (length places) T ≡ facts m (length p) T) refl

        after_is : after ≡ facts_of (meant c) U
        after_is = f ∙ to_contents h n e (λ p v m. facts n (length places) U ≡ facts m (length p) U) refl

        pub no_fewer : Small 64 T → before ≤ after
        no_fewer small = omega (arith, before_is, after_is, added_facts (meant c) (known h n e).sizes.window_low small made)

        pub gains : (clash : Bool) → (clash ≡ true) ↔ Clash (Stands n U) → Adds s r T U (accepted (gain (after - before) clash))
        gains clash q =
            let i : after - before ≡ facts_of (meant c) U - facts_of (meant c) T = omega (arith, before_is, after_is) in
            added h.table (to_contents h n e (λ p v m. readings (names_at s p) v r ≡ got a.marks a.place) a.all) made i (to_contents h n e (λ p v m. (clash ≡ true) ↔ Clash (Stands m U)) q)
