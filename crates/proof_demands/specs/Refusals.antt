-- What is accepted, and the refusals by their listed cases in their order (01, "Numbers of refusal"), over 01's lines as `spec_grammar` has them.
-- Assumes nothing. `s` is the sheet's text, r the readings' text, T the lent table; n is the number and p the place.
use Rattle.std.specs.Prelude.{◌≡◌, Bool, List, ◌⊎◌, ◌↔◌, ℕ, ◌≤◌, ◌<◌, length, take}
use Rattle.spec_limits.specs.Limits.{most_bytes, most_hidden, most_rows}
use Rattle.spec_tilco.specs.Lists.{total}
use Rattle.spec_tilco.specs.Formula.{hiddens}
use Rattle.spec_tilco.specs.Inference.{Mark, mark}
use Rattle.spec_tilco.specs.Lowering.{row_count_lem}
use Rattle.spec_tilco.specs.Table.{Stands, Standing, table_words, facts}
use Rattle.read_sheet.specs.Sheet.{Contents, meant}
use Rattle.open_sheet.specs.SheetIn.{names_in}
use Rattle.spec_grammar.specs.SheetLines as sheets
use Rattle.spec_grammar.specs.SheetLines.{SheetFault}
use Rattle.spec_grammar.specs.ReadingLines.{ReadingsRead, ReadingsFault}

-- ---- what is accepted

-- Each line of the sheet is right, up to its end, and it says k. "A sheet is at most 32,768 bytes."
pub record SheetReads (s : List ℕ) (k : Contents) : Type 0 where
  pub short : length s ≤ most_bytes
  pub lines : sheets.Reached s (sheets.Next.rule k.window k.places 0 k.rules) (length s)

-- The sheet is accepted: "at most 32 hidden signals and 1,024 rows".
pub record SheetAccepted (s : List ℕ) (k : Contents) : Type 0 where
  pub reads : SheetReads s k
  pub hidden : total hiddens k.rules ≤ most_hidden
  pub rows : row_count_lem (meant k) ≤ most_rows

-- The sheet and the table are accepted.
pub record TakenUp (s T : List ℕ) (k : Contents) : Type 0 where
  pub sheet : SheetAccepted s k
  pub long : length T ≡ table_words (meant k)
  pub inside : (row tick : ℕ) (v : Bool) → Standing (meant k) T (mark row tick v) → tick < k.window

-- Each line of the readings is right in their form, up to the end, and they say these marks. "At most 32,768 bytes."
pub record ReadingsAccepted (s : List ℕ) (k : Contents) (r : List ℕ) (ms : List Mark) : Type 0 where
  pub short : length r ≤ most_bytes
  pub lines : ReadingsRead (names_in s k) k.window r ms

-- ---- what is refused

-- check's: "1; then the sheet from its first line to its last; 9".
pub data SheetRefused (s : List ℕ) : ℕ → ℕ → Type 0 where
  one : most_bytes < length s → SheetRefused s 1 0
  two_to_eight : {n p : ℕ} → length s ≤ most_bytes → SheetFault s n p → SheetRefused s n p
  nine : {k : Contents} → SheetReads s k → (most_hidden < total hiddens k.rules) ⊎ (most_rows < row_count_lem (meant k)) → SheetRefused s 9 0

-- The sheet's, then the table's: "15; 16".
pub data TableRefused (s T : List ℕ) : ℕ → ℕ → Type 0 where
  of_the_sheet : {n p : ℕ} → SheetRefused s n p → TableRefused s T n p
  fifteen : {k : Contents} → SheetAccepted s k → (length T ≡ table_words (meant k) → ⊥) → TableRefused s T 15 0
  sixteen : {k : Contents} (row tick : ℕ) (v : Bool) → SheetAccepted s k → length T ≡ table_words (meant k)
      → Standing (meant k) T (mark row tick v) → k.window ≤ tick → TableRefused s T 16 0

-- add's: the sheet's and the table's, "then 10 and the readings line by line": 11 to 14 and 21.
pub data AddRefused (s r T : List ℕ) : ℕ → ℕ → Type 0 where
  up_to_sixteen : {n p : ℕ} → TableRefused s T n p → AddRefused s r T n p
  ten : {k : Contents} → TakenUp s T k → most_bytes < length r → AddRefused s r T 10 0
  line_by_line : {k : Contents} {n p : ℕ} → TakenUp s T k → length r ≤ most_bytes → ReadingsFault (names_in s k) k.window r n p → AddRefused s r T n p

-- ask's: the sheet's and the table's, "then 17".
pub data AskRefused (s T : List ℕ) (x t : ℕ) : ℕ → ℕ → Type 0 where
  up_to_sixteen : {n p : ℕ} → TableRefused s T n p → AskRefused s T x t n p
  seventeen : {k : Contents} → TakenUp s T k → (length k.places ≤ x) ⊎ (k.window ≤ t) → AskRefused s T x t 17 0

-- The listing program's: the sheet's, "29, after 9, for a table over" the words that are lent, then add's for the sheet's table.
pub data SettleRefused (s r T : List ℕ) : ℕ → ℕ → Type 0 where
  up_to_nine : {n p : ℕ} → SheetRefused s n p → SettleRefused s r T n p
  twenty_nine : {k : Contents} → SheetAccepted s k → length T < table_words (meant k) → SettleRefused s r T 29 0
  ten_to_sixteen : {k : Contents} {n p : ℕ} → SheetAccepted s k → table_words (meant k) ≤ length T → AddRefused s r (take (table_words (meant k)) T) n p → SettleRefused s r T n p

-- A refusal "adds no facts and changes no mark in the table": the table keeps every word.
pub record Unchanged (T U : List ℕ) : Type 0 where
  pub words : U ≡ T
  pub marks : (n : ℕ) (m : Mark) → Stands n U m ↔ Stands n T m
  pub facts : (n signals : ℕ) → facts n signals U ≡ facts n signals T
