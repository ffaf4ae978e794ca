-- Each answer of checking, comparing and running, by its outcome. Assumes what each law states.
use mathlib.Core.Path.{◌≡◌, refl, sym, ap, ◌∙◌, subst}
use mathlib.Core.Bool.{Bool, true, false, false≢true}
use mathlib.Core.List.{List}
use mathlib.Core.Logic.{◌↔◌}
use Prim.Native.Nat.{ℕ, ◌*◌, ◌≤◌}
use native.Mathlib.Omega.{arith}
use lib.ListN.{length}
use Rattle.std.specs.Prelude.{Result, Ok, Err}
use Rattle.spec_refusals.specs.declared.Fault.TheVariants.{TableLength, Records, TextLengths}
use Rattle.spec_refusals.specs.Numbers.{fault_number, Refusal}
use Rattle.read_bytes.specs.Read.Read.{got, refused as unread}
use Rattle.read_names.specs.Spellings.{names_at}
use Rattle.read_index.specs.Index.{places_in}
use Rattle.spec_tilco.specs.Inference.{Mark}
use Rattle.spec_tilco.specs.Lowering.{row_count_lem}
use Rattle.spec_tilco.specs.Table.{words, table_words}
use Rattle.close_parents.specs.Links.{Linked}
use Rattle.read_sheet.specs.Sheet.{Contents, meant}
use Rattle.open_sheet.specs.Results.{accepted, refused}
use Rattle.open_table.proofs.Tables.{in_sheet}
use Rattle.list_order.specs.Order.{in_order_lem}
use Rattle.spec_figures.specs.Texts.{LengthsFit, texts_in, marks_from}
use Rattle.spec_figures.specs.Figures.Figures.{not_the_table, not_the_records, not_the_lengths, not_read, figured}
use Rattle.figure_run.specs.RecordWords.{records_in}
use Rattle.figure_texts.specs.Notes.{Kept, TextsNoted}
use Rattle.figure_texts.specs.Notes.TextsNoted.{all_noted, refused_at}
use Rattle.figure_runs.specs.declared.runs.Sizes.{Sizes}
use Rattle.figure_runs.specs.Runs.{OpenedFor, LongFor, Runnable, AllRunnable, OfSheet, AllHold, RunsTexts, RecordRoom, FreshRecords, TextsRun}
use Rattle.figure_runs.specs.Runs.TextsRun.{all_run, not_read as text-off}
use Rattle.figure_runs.specs.FigureWords.{FiguresInWords}
use Rattle.figure_runs.proofs.OpenedSheets.{read_of_sheet}

-- ---- the texts noted

-- What is known of texts that are all accepted.
pub record AllNoted (names : List (List ℕ)) (W : ℕ) (ns j a cs : List ℕ) : Type 0 where
  pub marks : List (List Mark)
  pub place : ℕ
  pub hold : marks_from names W 0 (texts_in ns j) ≡ got marks place
  pub notes : Kept names W ns j a cs

module _ {names : List (List ℕ)} {W : ℕ} {ns j a cs : List ℕ} where
  pub when_all_noted : {u : Unit {0}} → TextsNoted names W ns j a cs (Ok u) → AllNoted names W ns j a cs
  when_all_noted (all_noted mss q e k) = record { marks = mss; place = q; hold = e; notes = k }

  pub when_refused : {r : Refusal} → TextsNoted names W ns j a cs (Err r) → marks_from names W 0 (texts_in ns j) ≡ unread (fault_number r.fault) r.place
  when_refused (refused_at r e) = e

-- So all of them can be run, with lists of parents that are made.
pub all_runnable : {s names B tops j ns a cs H N D T ws part : List ℕ} {z : Sizes} → Runnable s names B tops z D T → Linked z.count B H N → LengthsFit ns (length j)
    → AllNoted (names_at s (places_in names)) z.window ns j a cs → length ns ≤ length cs → part ≡ places_in names → FreshRecords (in_order_lem (names_at s part)) ws → RecordRoom ws
    → AllRunnable s names B tops z j ns a cs H N D T ws
all_runnable {s} {ws = ws} r l fit n counts e fresh room = record {
  one = r;
  linked = l;
  fit = fit;
  notes = n.notes;
  counts = counts;
  marks = n.marks;
  place = n.place;
  hold = n.hold;
  room = room;
  fresh = subst (λ (p : List ℕ). FreshRecords (in_order_lem (names_at s p)) ws) e fresh;
}

-- All of them are run.
pub texts_run : {s names B tops j ns a cs T U ws : List ℕ} {z : Sizes} → OpenedFor s names B tops z → AllNoted (names_at s (places_in names)) z.window ns j a cs
    → OfSheet s (λ l. (mss : List (List Mark)) → AllHold s j ns l mss → RunsTexts s mss U ws l) → OfSheet s (λ l. TextsRun s j ns T U ws l (Ok tt))
texts_run {j = j} {ns = ns} o n x l h =
    let e = read_of_sheet o (texts_in ns j) n.hold l h in
    all_run n.marks (n.place, e) (x l h n.marks (n.place, e))

-- A text is refused, and the table keeps every word.
pub texts_refused : {s names B tops j ns T ws : List ℕ} {z : Sizes} {r : Refusal} {a : Result (Unit {0}) Refusal} → OpenedFor s names B tops z
    → marks_from (names_at s (places_in names)) z.window 0 (texts_in ns j) ≡ unread (fault_number r.fault) r.place → a ≡ Err r → OfSheet s (λ l. TextsRun s j ns T T ws l a)
texts_refused {s} {j = j} {ns = ns} {T = T} {ws = ws} {r = r} o e is l h = subst (TextsRun s j ns T T ws l) (sym is) (text-off r (read_of_sheet o (texts_in ns j) e l h) refl)

-- ---- the answers of figures

module _ {s names B tops : List ℕ} {z : Sizes} (o : OpenedFor s names B tops z) (j ns T : List ℕ) (m : ℕ) where
  abbrev k : Contents
  k = o.sheet.contents

  words_same : 2 * z.count * z.n ≡ table_words (meant k)
  words_same = ap (λ (c : ℕ). 2 * c * z.n) o.sheet.rows ∙ ap (λ (n : ℕ). 2 * row_count_lem (meant k) * n) (o.words_are ∙ ap words o.sheet.window_is)

  pub refused_15 : {ws : List ℕ} → (LongFor z T → ⊥) → FiguresInWords s j ns T T m ws (Err (record { fault = TableLength; place = 0 }))
  refused_15 f = record { answer = refused 15 0; figures = not_the_table o.sheet.holds (λ e. f (e ∙ sym words_same)) refl; says = refl; holds = tt }

  module _ (long : LongFor z T) where
    pub refused_18 : {ws : List ℕ} → (m ≡ length (places_in names) → ⊥) → FiguresInWords s j ns T T m ws (Err (record { fault = Records; place = 0 }))
    refused_18 f = record {
      answer = refused 18 0;
      figures = not_the_records o.sheet.holds (long ∙ words_same) (λ e. f (e ∙ ap length (sym o.sheet.names_are))) refl;
      says = refl;
      holds = tt;
    }

    module _ (many : m ≡ length (places_in names)) where
      pub refused_19 : {ws : List ℕ} → (LengthsFit ns (length j) → ⊥) → FiguresInWords s j ns T T m ws (Err (record { fault = TextLengths; place = 0 }))
      refused_19 f = record {
        answer = refused 19 0;
        figures = not_the_lengths o.sheet.holds (long ∙ words_same) (many ∙ ap length o.sheet.names_are) f refl;
        says = refl;
        holds = tt;
      }

      -- What the texts come to is what figures answers.
      pub of_texts : {U ws : List ℕ} {r : Result (Unit {0}) Refusal} → LengthsFit ns (length j) → RecordRoom ws → OfSheet s (λ l. TextsRun s j ns T U ws l r) → FiguresInWords s j ns T U m ws r
      of_texts {U} {ws} fit room x = go (x k o.sheet.holds)
        where
          same : m ≡ length k.places
          same = many ∙ ap length o.sheet.names_are

          go : {r : Result (Unit {0}) Refusal} → TextsRun s j ns T U ws k r → FiguresInWords s j ns T U m ws r
          go (all_run mss h y) = record {
            answer = accepted (records_in ws (length k.places));
            figures = figured o.sheet.holds (long ∙ words_same) same fit h.1 y;
            says = refl;
            holds = (omega (arith, same, (in_sheet s o.sheet.holds).sizes.signals_high), ap (records_in ws) same);
          }
          go (text-off d e u) = record { answer = refused (fault_number d.fault) d.place; figures = not_read o.sheet.holds (long ∙ words_same) same fit e u; says = refl; holds = tt }

-- Lengths that do not fit.
pub not_fitting : {P : Type 0} {b : Bool} → (b ≡ true) ↔ P → b ≡ false → P → ⊥
not_fitting f e p = false≢true (sym e ∙ f.1 p)
