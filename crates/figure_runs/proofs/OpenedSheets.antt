-- A sheet that is opened: what is said of its numbers and names at hand is said of what its text holds. Assumes that it is opened.
use mathlib.Core.Path.{◌≡◌, sym, ap, ◌∙◌, subst}
use mathlib.Core.List.{List}
use Prim.Native.Nat.{ℕ, ◌*◌, ◌≤◌}
use native.Mathlib.Omega.{arith}
use lib.ListN.{length}
use Rattle.spec_limits.specs.Limits.{most_readings}
use Rattle.read_bytes.specs.Read.{Read}
use Rattle.read_names.specs.Spellings.{names_at}
use Rattle.read_index.specs.Index.{places_in}
use Rattle.spec_tilco.specs.Inference.{Mark}
use Rattle.spec_tilco.specs.Lists.{All}
use Rattle.spec_tilco.specs.Table.{words}
use Rattle.table_marks.specs.Sizes.{most_table_words}
use Rattle.read_sheet.specs.Sheet.{Contents}
use Rattle.read_readings.specs.SpanNumbers.{CanNote}
use Rattle.open_sheet.specs.SheetIn.{names_in}
use Rattle.open_table.proofs.Tables.{in_sheet, window_range, row_range, row_words, table_most, names_stand}
use Rattle.spec_operations.proofs.Determined.{one_sheet}
use Rattle.spec_figures.specs.Texts.{marks_from}
use Rattle.figure_runs.specs.declared.runs.Sizes.{Sizes}
use Rattle.figure_runs.specs.Runs.{OpenedFor, OfSheet, NamesStand}

module _ {s names B tops : List ℕ} {z : Sizes} (o : OpenedFor s names B tops z) where
  abbrev k : Contents
  k = o.sheet.contents

  -- What is said of the opened sheet is said of the sheet.
  pub of_sheet : (P : Contents → Type 0) → P k → OfSheet s P
  of_sheet P p l e = subst P (one_sheet o.sheet.holds e) p

  -- What is said of the numbers of its contents is said of those at hand, and the other way.
  pub to_hand : (F : ℕ → ℕ → ℕ → Type 0) {m : ℕ} → m ≡ length (places_in names) → F k.window (words k.window) (length k.places) → F z.window z.n m
  to_hand F e x =
      subst (F z.window z.n) (sym (e ∙ ap length o.sheet.names_are))
      (subst (λ (n : ℕ). F z.window n (length k.places)) (sym o.words_are) (subst (λ (w : ℕ). F w (words w) (length k.places)) (sym o.sheet.window_is) x))

  pub of_hand : (F : ℕ → ℕ → ℕ → Type 0) {m : ℕ} → m ≡ length (places_in names) → F z.window z.n m → F k.window (words k.window) (length k.places)
  of_hand F e x =
      subst (λ (w : ℕ). F w (words w) (length k.places)) o.sheet.window_is
      (subst (λ (n : ℕ). F z.window n (length k.places)) o.words_are (subst (F z.window z.n) (e ∙ ap length o.sheet.names_are) x))

  pub names_are : names_at s (places_in names) ≡ names_in s k
  names_are = ap (names_at s) o.sheet.names_are

  -- What texts hold by the names and the window at hand, they hold.
  pub read_of_sheet : (rs : List (List ℕ)) {R : Read (List (List Mark))} → marks_from (names_at s (places_in names)) z.window 0 rs ≡ R → OfSheet s (λ l. marks_from (names_in s l) l.window 0 rs ≡ R)
  read_of_sheet rs {R} e =
      of_sheet (λ l. marks_from (names_in s l) l.window 0 rs ≡ R)
      (subst (λ (l : List (List ℕ)). marks_from l k.window 0 rs ≡ R) names_are (subst (λ (w : ℕ). marks_from (names_at s (places_in names)) w 0 rs ≡ R) o.sheet.window_is e))

  -- Entries can be noted,
  pub can_note : (a : List ℕ) → most_readings ≤ length a → CanNote s names z.window a
  can_note a room = let w = window_range o.sheet in record { index = o.index; some = w.0; ticks = w.1; room = room }

  -- and the names can be put in order.
  pub names_stand_there : {part : List ℕ} → part ≡ places_in names → NamesStand s part
  names_stand_there {part} e =
      let same : part ≡ k.places = e ∙ o.sheet.names_are in
      record {
        inside = subst (All (λ p. p ≤ length s)) (sym same) (names_stand s o.sheet.holds);
        few = omega (arith, ap length same, (in_sheet s o.sheet.holds).sizes.signals_high);
      }

  -- The words of its table can be counted.
  pub words_few : 2 * z.count * z.n ≤ most_table_words
  words_few = let w = window_range o.sheet in table_most (row_range o.sheet) (row_words w.0 w.1 o.words_are).most
