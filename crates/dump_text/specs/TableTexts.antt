-- The parts of a table's dump that are written one after the other. Assumes nothing.
-- T is the table, of n words for each row and value, k is how many signals there are, W the window, q a word of a row.
use Rattle.std.specs.Prelude.{◌≡◌, List, ℕ, ◌-◌, ◌*◌, ◌≤◌, leb, length}
use Rattle.spec_limits.specs.Limits.{most_signals, most_ticks, most_name_bytes}
use Rattle.spec_tilco.specs.Lists.{All}
use Rattle.spec_tilco.specs.Table.{words}
use Rattle.read_bytes.specs.Bytes.{pick}
use Rattle.table_words.specs.WordTicks.{HasRows}
use Rattle.spec_dump.specs.DumpTexts.{events_text}
use Rattle.spec_dump.specs.TableSigns.{signs_at, timed, changes_at, changes_from, sign_events}
use Rattle.dump_changes.specs.WordSigns.{row_sign}

-- The table has the signals' rows, in words that cover the window.
pub record CanDump (k W n : ℕ) (T : List ℕ) : Type 0 where
  pub rows : HasRows n T k
  pub few : k ≤ most_signals
  pub some : 1 ≤ W
  pub most : W ≤ most_ticks
  pub words_are : n ≡ words W

-- The names can be written: they are short.
abbrev pub ShortNames : List (List ℕ) → Type 0
ShortNames names = All (λ w. length w ≤ most_name_bytes) names

-- How many ticks of the window are in word q.
unfoldable pub word_ticks : ℕ → ℕ → ℕ
word_ticks W q = pick (leb 64 (W - 64 * q)) (λ _. 64) (W - 64 * q)

-- The signs at tick 0, of the signals from x on.
abbrev pub first_text : ℕ → ℕ → List ℕ → ℕ → List ℕ
first_text k n T x = events_text (signs_at (row_sign n T) 0 x (k - x))

-- The changes at tick t, of the signals from x on, without the time.
abbrev pub changes_text : ℕ → ℕ → List ℕ → ℕ → ℕ → List ℕ
changes_text k n T t x = events_text (changes_at (row_sign n T) t x (k - x))

-- The changes at tick t, with the time if there are any.
abbrev pub tick_text : ℕ → ℕ → List ℕ → ℕ → List ℕ
tick_text k n T t = events_text (timed t (changes_at (row_sign n T) t 0 k))

-- The changes at the ticks of word q.
abbrev pub word_text : ℕ → ℕ → ℕ → List ℕ → ℕ → List ℕ
word_text k W n T q = events_text (changes_from (row_sign n T) k (64 * q) (word_ticks W q))

-- The changes from word q on.
abbrev pub later_text : ℕ → ℕ → ℕ → List ℕ → ℕ → List ℕ
later_text k W n T q = events_text (changes_from (row_sign n T) k (64 * q) (W - 64 * q))

-- All events.
abbrev pub all_text : ℕ → ℕ → ℕ → List ℕ → List ℕ
all_text k W n T = events_text (sign_events (row_sign n T) k W)
