-- What the listing with captions tells of a sheet, readings and captions, and leaves in the table that is lent (E7).
-- Assumes nothing. `s` is the sheet's text, r the readings' text, c the captions' text, T the lent table before and U after.
use Rattle.std.specs.Prelude.{◌≡◌, Bool, List, ◌++◌, ℕ, ◌≤◌, ◌<◌, length, take, drop, Option}
use Rattle.spec_limits.specs.Limits.{most_caption_bytes, most_captioned, most_listed_words}
use Rattle.spec_ticks.specs.Ticks.{empty}
use Rattle.spec_tilco.specs.Lists.{All}
use Rattle.spec_tilco.specs.Lowering.{row_count_lem}
use Rattle.spec_tilco.specs.Table.{Standing, table_words, facts_of, Answer}
use Rattle.read_bytes.specs.Read.Read.{got, refused as unread}
use Rattle.read_captions.specs.Captions.{captions_in}
use Rattle.read_captions.specs.Parts.{shown_texts, Showable}
use Rattle.read_sheet.specs.Sheet.{Contents, meant}
use Rattle.open_sheet.specs.Results.{Result, accepted, refused}
use Rattle.open_sheet.specs.SheetIn.{sheet_in, names_in}
use Rattle.spec_operations.specs.Gain.{gain}
use Rattle.spec_operations.specs.Operations.{Adds}
use Rattle.list_signals.specs.Signals.{Answers}
use Rattle.list_captioned.specs.ShownListing.{shown_listing}
use Rattle.list_settled.specs.Prints.{WrittenWithin, text_of}

-- What is told of the sheet's table T, with a text to be shown of each signal: the listing of what one add makes of it, or the add's refusal, which keeps every word.
pub data ListsShown (shown : List (List ℕ)) (s r T : List ℕ) : List ℕ → Result (List ℕ) → Type 0 where
  not_added : {n p : ℕ} → Adds s r T T (refused n p) → ListsShown shown s r T T (refused n p)
  listed : {k : Contents} {U : List ℕ} {new : ℕ} {clash : Bool} {f : ℕ → ℕ → Answer} → sheet_in s ≡ accepted k → Adds s r T U (accepted (gain new clash))
      → Answers (Standing (meant k) U) (length k.places) k.window f
      → ListsShown shown s r T U (accepted (shown_listing (names_in s k) shown k.window (row_count_lem (meant k)) (facts_of (meant k) U) clash f))

-- What is told where T is lent: the sheet's refusal; the captions', line by line; 29 if the sheet's table has more words than T; else what is told of T's first words,
-- with the caption of each signal, or its name where it has none. The other words stay.
pub data PrintsCaptioned (s r c T : List ℕ) : List ℕ → Result (List ℕ) → Type 0 where
  no_sheet : {n p : ℕ} → sheet_in s ≡ refused n p → PrintsCaptioned s r c T T (refused n p)
  no_captions_lem : {k : Contents} {n p : ℕ} → sheet_in s ≡ accepted k → captions_in (names_in s k) c ≡ unread n p → PrintsCaptioned s r c T T (refused n p)
  no_room : {k : Contents} {at : List (Option ℕ)} {q : ℕ} → sheet_in s ≡ accepted k → captions_in (names_in s k) c ≡ got at q → length T < table_words (meant k) → PrintsCaptioned s r c T T (refused 29 0)
  on_table : {k : Contents} {at : List (Option ℕ)} {U : List ℕ} {q : ℕ} {a : Result (List ℕ)} → sheet_in s ≡ accepted k → captions_in (names_in s k) c ≡ got at q → table_words (meant k) ≤ length T
      → ListsShown (shown_texts s c k.places at) s r (take (table_words (meant k)) T) U a → PrintsCaptioned s r c T (U ++ drop (table_words (meant k)) T) a

-- A listing with captions has at most `most_captioned` bytes.
abbrev pub WrittenCaptioned : (Result (List ℕ) → Type 0) → List ℕ → List ℕ → ℕ → Type 0
WrittenCaptioned R m m' n = WrittenWithin most_captioned R m m' n

-- Captions were read for the names at these places, and what is shown of each is short.
pub record Captioned (s c places : List ℕ) (captions : List (Option ℕ)) : Type 0 where
  pub showable : Showable s c places captions
  pub short : All (λ w. length w ≤ most_caption_bytes) (shown_texts s c places captions)

-- What the listing program with captions prints: it adds once to an empty table, as `Settles` says of the one without.
pub record SettlesCaptioned (s r c l : List ℕ) : Type 0 where
  pub after : List ℕ
  pub told : Result (List ℕ)
  pub prints : PrintsCaptioned s r c (empty most_listed_words) after told
  pub text_is : l ≡ text_of told
