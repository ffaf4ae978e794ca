-- A run counted: what its closed table says of a row, and what becomes of a signal's record.
-- Assumes nothing. T is the table, of n words for each row and value, W the window; ws are the records' words before and ws' after.
use Rattle.std.specs.Prelude.{◌≡◌, Bool, true, false, List, [], ◌∷◌, ◌++◌, ◌⊎◌, ◌↔◌, ℕ, zero, suc, ◌+◌, ◌*◌, ◌^◌, ◌<◌, ◌≤◌, length, get_or}
use Rattle.std.specs.Int.Count.{ones}
use Rattle.spec_limits.specs.Limits.{most_signals}
use Rattle.spec_ticks.specs.Ticks.{block}
use Rattle.spec_tilco.specs.Inference.{mark, Clash}
use Rattle.spec_tilco.specs.Table.{Stands, Inside, Answer}
use Rattle.table_marks.specs.Sizes.{most_words}
use Rattle.table_words.specs.WordTicks.{HasRow}
use Rattle.list_signals.specs.Signals.{AnswersAt}
use Rattle.spec_figures.specs.declared.Record.{Record}
use Rattle.spec_figures.specs.Records.{Earliest, Tells}
use Rattle.figure_run.specs.declared.counts.RowTicks.{RowTicks}
use Rattle.figure_run.specs.RecordWords.{record_words, record_in}

-- The ones in n words from place b on.
unfoldable pub ones_from : List ℕ → ℕ → ℕ → ℕ
ones_from T b zero = 0
ones_from T b (suc n) = ones (get_or T b 0) + ones_from T (suc b) n

-- A row has a mark at a tick, of either value.
abbrev pub Marked : ℕ → List ℕ → ℕ → ℕ → Type 0
Marked n T row t = Stands n T (mark row t true) ⊎ Stands n T (mark row t false)

-- How many marks of each value a row has, and its first marked tick.
pub record RowCounted (n : ℕ) (T : List ℕ) (row : ℕ) (r : RowTicks) : Type 0 where
  pub held_are : r.held ≡ ones_from T (block row true * n) n
  pub failed_are : r.failed ≡ ones_from T (block row false * n) n
  pub first_is : Earliest (Marked n T row) r.first

-- One more run can be counted in the record r: the table has the signal's row in words that cover the window, no mark is past the window, `clash` is told
-- rightly, and there is room in the record's counts.
pub record Countable (r : Record) (n W : ℕ) (T : List ℕ) (clash : Bool) : Type 0 where
  pub row : HasRow n T r.signal
  pub covered : W ≤ n * 64
  pub few : n ≤ most_words
  pub inside : Inside W (Stands n T)
  pub clashes : (clash ≡ true) ↔ Clash (Stands n T)
  pub held_room : r.held + W < 2 ^ 64
  pub failed_room : r.failed + W < 2 ^ 64
  pub unsettled_room : r.unsettled + W < 2 ^ 64
  pub clashed_room : r.clashed + W < 2 ^ 64

-- The record v is r with one more run: what r tells of earlier runs, v tells of these and of the run whose answers the table gives.
abbrev pub CountsRun : ℕ → ℕ → List ℕ → Record → Record → Type 0
CountsRun n W T r v =
    (runs : List (ℕ → Answer)) (f : ℕ → Answer) → AnswersAt (Stands n T) r.signal W f → Tells W r.signal runs r → Tells W r.signal (runs ++ f ∷ []) v

-- The run can be counted in each of the first k records.
pub record CanCount (k n W : ℕ) (T : List ℕ) (clash : Bool) (ws : List ℕ) : Type 0 where
  pub room : record_words * k ≤ length ws
  pub signals : k ≤ most_signals
  pub each : (i : ℕ) → i < k → Countable (record_in ws i) n W T clash

-- It is counted in each of them.
pub record RunCounted (k n W : ℕ) (T ws ws' : List ℕ) : Type 0 where
  pub size : length ws' ≡ length ws
  pub each : (i : ℕ) → i < k → CountsRun n W T (record_in ws i) (record_in ws' i)
