-- Readings taken into a lent table: what each outcome says of the text and of the table's words (01, "Readings" and "Numbers of refusal").
-- Assumes nothing. R is what the text holds, n how many words a row has for each value, T the table before and T' after.
use Rattle.std.specs.Prelude.{◌≡◌, List, ℕ, ◌*◌, ◌≤◌, length, Result, Ok, Err}
use Rattle.spec_limits.specs.Limits.{most_ticks}
use Rattle.spec_refusals.specs.Numbers.{fault_number, Refusal}
use Rattle.read_index.specs.Index.{name_count, IndexOf}
use Rattle.read_bytes.specs.Read.{Read}
use Rattle.read_bytes.specs.Read.Read.{got, refused}
use Rattle.spec_tilco.specs.Inference.{Mark}
use Rattle.table_marks.specs.Puts.{Puts}

-- Readings can be taken into the table T: the names are indexed, their window has ticks, which n words cover, and the table has the rows of the signals.
pub record CanTake (s names : List ℕ) (window n : ℕ) (T : List ℕ) : Type 0 where
  pub index : IndexOf s names
  pub some : 1 ≤ window
  pub ticks : window ≤ most_ticks
  pub covered : window ≤ 64 * n
  pub room : 2 * name_count names * n ≤ length T

-- What each outcome of taking says of the text and the table: every reading is put, or every word is kept.
pub data ReadingsTaken (R : Read (List Mark)) (n : ℕ) (T T' : List ℕ) : Result (Unit {0}) Refusal → Type 0 where
  taken : (ms : List Mark) (q : ℕ) → R ≡ got ms q → Puts n ms T T' → ReadingsTaken R n T T' (Ok tt)
  kept : (r : Refusal) → R ≡ refused (fault_number r.fault) r.place → T' ≡ T → ReadingsTaken R n T T' (Err r)
