-- Records in words, six each. Assumes nothing. ws are the words before, ws' after.
use Rattle.std.specs.Prelude.{◌≡◌, List, ℕ, ◌+◌, ◌*◌, ◌<◌, length, get_or}
use Rattle.spec_tilco.specs.Lists.{tab}
use Rattle.spec_figures.specs.declared.Record.{Record}
use Rattle.spec_figures.specs.Records.{no_tick}

-- The words of a record.
abbrev pub record_words : ℕ
record_words = 6

-- Record i.
abbrev pub record_in : List ℕ → ℕ → Record
record_in ws i = record {
  signal = get_or ws (record_words * i) 0;
  held = get_or ws (record_words * i + 1) 0;
  failed = get_or ws (record_words * i + 2) 0;
  unsettled = get_or ws (record_words * i + 3) 0;
  clashed = get_or ws (record_words * i + 4) 0;
  first = get_or ws (record_words * i + 5) 0;
}

-- The first k records.
abbrev pub records_in : List ℕ → ℕ → List Record
records_in ws k = tab (record_in ws) k

-- The record of a signal before the first run.
abbrev pub no_runs : ℕ → Record
no_runs x = record { signal = x; held = 0; failed = 0; unsettled = 0; clashed = 0; first = no_tick }

-- Record i is r, and the others are as they were.
pub record PutsRecord (i : ℕ) (r : Record) (ws ws' : List ℕ) : Type 0 where
  pub size : length ws' ≡ length ws
  pub here : record_in ws' i ≡ r
  pub others : (j : ℕ) → (j ≡ i → ⊥) → record_in ws' j ≡ record_in ws j

-- The first records are those of the signals xs before the first run.
pub record Started (xs ws ws' : List ℕ) : Type 0 where
  pub size : length ws' ≡ length ws
  pub each : (i : ℕ) → i < length xs → record_in ws' i ≡ no_runs (get_or xs i 0)
