-- What settle prints for a sheet and readings, and leaves in the table that it is lent (01, "The listing program"; E9).
-- Assumes nothing. `s` is the sheet's text, r the readings' text, T the lent table before and U after.
use Rattle.std.specs.Prelude.{◌≡◌, Bool, List, ◌++◌, ℕ, ◌≤◌, ◌<◌, length, take, drop}
use Rattle.std.proofs.lemmas.List.Edits.{sets}
use Rattle.spec_limits.specs.Limits.{most_listed, most_listed_words}
use Rattle.spec_ticks.specs.Ticks.{empty}
use Rattle.spec_tilco.specs.Lowering.{row_count_lem}
use Rattle.spec_tilco.specs.Table.{Standing, table_words, facts_of, Answer}
use Rattle.read_sheet.specs.Sheet.{Contents, meant}
use Rattle.open_sheet.specs.Results.{Result, accepted, refused}
use Rattle.spec_operations.specs.Gain.{gain}
use Rattle.open_sheet.specs.SheetIn.{sheet_in, names_in}
use Rattle.spec_operations.specs.Operations.{Adds}
use Rattle.list_signals.specs.Signals.{Answers}
use Rattle.list_table.specs.Listing.{listing_text, refusal_text}

-- What is told of the sheet's table T: the listing of what one add makes of it, or the add's refusal, which keeps every word.
pub data Lists (s r T : List ℕ) : List ℕ → Result (List ℕ) → Type 0 where
  not_added : {n p : ℕ} → Adds s r T T (refused n p) → Lists s r T T (refused n p)
  listed : {k : Contents} {U : List ℕ} {new : ℕ} {clash : Bool} {f : ℕ → ℕ → Answer} → sheet_in s ≡ accepted k → Adds s r T U (accepted (gain new clash))
      → Answers (Standing (meant k) U) (length k.places) k.window f
      → Lists s r T U (accepted (listing_text (names_in s k) k.window (row_count_lem (meant k)) (facts_of (meant k) U) clash f))

-- What is told where T is lent: the sheet's refusal; 29 if the sheet's table has more words than T; else what is told of T's first words. The others stay.
pub data Prints (s r T : List ℕ) : List ℕ → Result (List ℕ) → Type 0 where
  no_sheet : {n p : ℕ} → sheet_in s ≡ refused n p → Prints s r T T (refused n p)
  no_room : {k : Contents} → sheet_in s ≡ accepted k → length T < table_words (meant k) → Prints s r T T (refused 29 0)
  on_table : {k : Contents} {U : List ℕ} {a : Result (List ℕ)} → sheet_in s ≡ accepted k → table_words (meant k) ≤ length T
      → Lists s r (take (table_words (meant k)) T) U a → Prints s r T (U ++ drop (table_words (meant k)) T) a

-- The bytes of what is told: "A refusal prints `answer=` and `place=` only."
abbrev pub text_of : Result (List ℕ) → List ℕ
text_of (accepted listing) = listing
text_of (refused n p) = refusal_text n p

-- What the listing program prints: it "adds once to an empty table, and prints", and "prints 29, after 9, for a table over 8,192 words".
pub record Settles (s r l : List ℕ) : Type 0 where
  pub after : List ℕ
  pub told : Result (List ℕ)
  pub prints : Prints s r (empty most_listed_words) after told
  pub text_is : l ≡ text_of told

-- What R tells is written from the buffer's first place on as far as there is room; its length, at most `limit`, is answered.
pub record WrittenWithin (limit : ℕ) (R : Result (List ℕ) → Type 0) (m m' : List ℕ) (n : ℕ) : Type 0 where
  pub told : Result (List ℕ)
  pub tells : R told
  pub long : n ≡ length (text_of told)
  pub most : n ≤ limit
  pub holds : m' ≡ sets m 0 (text_of told)

-- A listing without captions has at most `most_listed` bytes.
abbrev pub Written : (Result (List ℕ) → Type 0) → List ℕ → List ℕ → ℕ → Type 0
Written R m m' n = WrittenWithin most_listed R m m' n

-- The sheet was opened: its window, its names' places and its row count are at hand.
pub record Begun (s places : List ℕ) (w count : ℕ) : Type 0 where
  pub contents : Contents
  pub holds : sheet_in s ≡ accepted contents
  pub window_is : w ≡ contents.window
  pub names_are : places ≡ contents.places
  pub rows : count ≡ row_count_lem (meant contents)
