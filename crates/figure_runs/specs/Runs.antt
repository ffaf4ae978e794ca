-- One run after the other: what each needs, and what it makes of the work table and of the records.
-- Assumes nothing. `s` is the sheet's text, j the joined readings texts, ns their lengths; T is the work table before and U after, ws' the records' words after.
use Rattle.std.specs.Prelude.{◌≡◌, Bool, true, List, ◌↔◌, ℕ, ◌*◌, ◌<◌, ◌≤◌, length, get_or, Result, Ok, Err}
use Rattle.spec_limits.specs.Limits.{most_signals}
use Rattle.spec_refusals.specs.Numbers.{fault_number, Refusal}
use Rattle.read_bytes.specs.Read.Read.{got, refused}
use Rattle.spec_tilco.specs.Inference.{Mark, Clash}
use Rattle.spec_tilco.specs.Lists.{All}
use Rattle.spec_tilco.specs.Table.{words, Standing}
use Rattle.close_parents.specs.Links.{Linked}
use Rattle.read_sheet.specs.Sheet.{Contents, meant}
use Rattle.read_names.specs.Spellings.{names_at}
use Rattle.read_index.specs.Index.{places_in, IndexOf}
use Rattle.read_readings.specs.Readings.{readings}
use Rattle.open_sheet.specs.Results.{accepted}
use Rattle.open_sheet.specs.SheetIn.{sheet_in, names_in}
use Rattle.open_sheet.specs.OpenedSheet.{OpenedSheet}
use Rattle.op_add.specs.WorkLists.{ListFor}
use Rattle.list_order.specs.Order.{in_order_lem}
use Rattle.spec_figures.specs.Texts.{LengthsFit, texts_in, marks_from}
use Rattle.spec_figures.specs.Figures.{Closed, Ran}
use Rattle.figure_run.specs.RecordWords.{record_words, record_in, records_in, no_runs}
use Rattle.figure_texts.specs.Notes.{Kept}
use Rattle.figure_runs.specs.declared.runs.Sizes.{Sizes}

-- The sheet is opened, and its names are indexed.
pub record OpenedFor (s names B tops : List ℕ) (z : Sizes) : Type 0 where
  pub sheet : OpenedSheet s (places_in names) B tops z.window z.tops z.count
  pub index : IndexOf s names
  pub words_are : z.n ≡ words z.window

-- The table T has the sheet's length.
abbrev pub LongFor : Sizes → List ℕ → Type 0
LongFor z T = length T ≡ 2 * z.count * z.n

-- A text can be run: the table T has the sheet's length, and the list of work D is long enough for it.
pub record Runnable (s names B tops : List ℕ) (z : Sizes) (D T : List ℕ) : Type 0 where
  pub opened : OpenedFor s names B tops z
  pub long : LongFor z T
  pub list : ListFor (length T) (length D)

-- What a statement says of the sheet that the text s holds.
abbrev pub OfSheet : List ℕ → (Contents → Type 0) → Type 0
OfSheet s P = (k : Contents) → sheet_in s ≡ accepted k → P k

-- The text r is accepted, and these are its marks.
abbrev pub Holds : List ℕ → List ℕ → Contents → List Mark → Type 0
Holds s r k ms = (q : ℕ) × (readings (names_in s k) k.window r ≡ got ms q)

-- The run of the text r leaves the table U: it is the closed table, and `clash` tells whether it clashes.
abbrev pub RunsText : List ℕ → List ℕ → List ℕ → Bool → Type 0
RunsText s r U clash = OfSheet s (λ k. (ms : List Mark) → Holds s r k ms → Closed k ms U × ((clash ≡ true) ↔ Clash (Standing (meant k) U)))

-- What the joined texts hold.
abbrev pub AllHold : List ℕ → List ℕ → List ℕ → Contents → List (List Mark) → Type 0
AllHold s j ns k mss = (q : ℕ) × (marks_from (names_in s k) k.window 0 (texts_in ns j) ≡ got mss q)

-- The runs of texts with these marks leave the table U and the signals' records in the words ws'.
abbrev pub RunsTexts : List ℕ → List (List Mark) → List ℕ → List ℕ → Contents → Type 0
RunsTexts s mss U ws' k = Ran k (names_in s k) mss U (records_in ws' (length k.places))

-- There are words for the most records.
abbrev pub RecordRoom : List ℕ → Type 0
RecordRoom ws = record_words * most_signals ≤ length ws

-- The first records are those of the signals xs before the first run.
abbrev pub FreshRecords : List ℕ → List ℕ → Type 0
FreshRecords xs ws = (i : ℕ) → i < length xs → record_in ws i ≡ no_runs (get_or xs i 0)

-- The names stand in the text s, and are at most 64.
pub record NamesStand (s places : List ℕ) : Type 0 where
  pub inside : All (λ p. p ≤ length s) places
  pub few : length places ≤ most_signals

-- All texts can be run, one after the other: their lengths fit the joined slice j, each of them is accepted, their notes are in a, as many of each as cs says,
-- H and N have the lists of parents, and the words ws have a record for each signal, with no run counted.
pub record AllRunnable (s names B tops : List ℕ) (z : Sizes) (j ns a cs H N D T ws : List ℕ) : Type 0 where
  pub one : Runnable s names B tops z D T
  pub linked : Linked z.count B H N
  pub fit : LengthsFit ns (length j)
  pub notes : Kept (names_at s (places_in names)) z.window ns j a cs
  pub counts : length ns ≤ length cs
  pub marks : List (List Mark)
  pub place : ℕ
  pub hold : marks_from (names_at s (places_in names)) z.window 0 (texts_in ns j) ≡ got marks place
  pub room : RecordRoom ws
  pub fresh : FreshRecords (in_order_lem (names_at s (places_in names))) ws

-- What each outcome of checking and running the texts says: all are accepted and run, or the first refusal is given, and every word of the table is kept.
pub data TextsRun (s j ns T U ws' : List ℕ) (k : Contents) : Result (Unit {0}) Refusal → Type 0 where
  all_run : (mss : List (List Mark)) → AllHold s j ns k mss → RunsTexts s mss U ws' k → TextsRun s j ns T U ws' k (Ok tt)
  not_read : (r : Refusal) → marks_from (names_in s k) k.window 0 (texts_in ns j) ≡ refused (fault_number r.fault) r.place → U ≡ T → TextsRun s j ns T U ws' k (Err r)
