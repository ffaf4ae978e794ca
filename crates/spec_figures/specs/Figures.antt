-- What figures answers, and leaves in the lent work table (E1).
-- Assumes nothing. `s` is the sheet's text, j the joined readings texts, ns their lengths, T the work table before and U after, m how many records are lent.
use Rattle.std.specs.Prelude.{◌≡◌, List, [], ◌∷◌, map, ℕ, length}
use Rattle.read_bytes.specs.Read.Read.{got, refused as unread}
use Rattle.spec_tilco.specs.Inference.{Mark}
use Rattle.spec_tilco.specs.Table.{Standing, table_words, Added, Answer}
use Rattle.read_sheet.specs.Sheet.{Contents, meant}
use Rattle.open_sheet.specs.Results.{Result, accepted, refused}
use Rattle.open_sheet.specs.SheetIn.{sheet_in, names_in, blank}
use Rattle.list_order.specs.Order.{in_order_lem}
use Rattle.list_signals.specs.Signals.{Answers}
use Rattle.spec_figures.specs.declared.Record.{Record}
use Rattle.spec_figures.specs.Records.{Tells}
use Rattle.spec_figures.specs.Texts.{LengthsFit, texts_in, marks_from}

-- Two lists are as long as each other, and related entry by entry.
abbrev pub Each : {A B : Type 0} → (A → B → Type 0) → List A → List B → Type 0
Each R [] [] = Unit {0}
Each R [] (y ∷ ys) = ⊥
Each R (x ∷ xs) [] = ⊥
Each R (x ∷ xs) (y ∷ ys) = R x y × Each R xs ys

-- The last of a list, or x of an empty one.
abbrev pub last_or : {A : Type 0} → A → List A → A
last_or x [] = x
last_or x (y ∷ ys) = last_or y ys

-- U is the closed table of a run: the sheet's empty table with these readings added.
abbrev pub Closed : Contents → List Mark → List ℕ → Type 0
Closed k ms U = Added (meant k) (blank k) ms U

-- f is what ask answers of the closed table U.
abbrev pub AnswersOf : Contents → List ℕ → (ℕ → ℕ → Answer) → Type 0
AnswersOf k U f = Answers (Standing (meant k) U) (length k.places) k.window f

-- Runs of texts with these marks, and their records, which come in the listing's order: "a lent work table is cleared before each run and ends as the last run's
-- closed table (cleared if none)".
pub record Ran (k : Contents) (names : List (List ℕ)) (mss : List (List Mark)) (U : List ℕ) (rs : List Record) : Type 0 where
  pub tables : List (List ℕ)
  pub answers : List (ℕ → ℕ → Answer)
  pub closed : Each (Closed k) mss tables
  pub asked : Each (AnswersOf k) tables answers
  pub last_is : U ≡ last_or (blank k) tables
  pub told : Each (λ x r. Tells k.window x (map (λ f. f x) answers) r) (in_order_lem names) rs

-- What figures answers: "after 9, 15 for the work table, then 18 when the list's length isn't the signal count, then 19 .., then each text's own in turn", or the
-- records. A refusal keeps every word of the work table.
pub data Figures (s j ns T U : List ℕ) (m : ℕ) : Result (List Record) → Type 0 where
  not_opened : {n p : ℕ} → sheet_in s ≡ refused n p → U ≡ T → Figures s j ns T U m (refused n p)
  not_the_table : {k : Contents} → sheet_in s ≡ accepted k → (length T ≡ table_words (meant k) → ⊥) → U ≡ T → Figures s j ns T U m (refused 15 0)
  not_the_records : {k : Contents} → sheet_in s ≡ accepted k → length T ≡ table_words (meant k) → (m ≡ length k.places → ⊥) → U ≡ T → Figures s j ns T U m (refused 18 0)
  not_the_lengths : {k : Contents} → sheet_in s ≡ accepted k → length T ≡ table_words (meant k) → m ≡ length k.places → (LengthsFit ns (length j) → ⊥) → U ≡ T
      → Figures s j ns T U m (refused 19 0)
  not_read : {k : Contents} {n p : ℕ} → sheet_in s ≡ accepted k → length T ≡ table_words (meant k) → m ≡ length k.places → LengthsFit ns (length j)
      → marks_from (names_in s k) k.window 0 (texts_in ns j) ≡ unread n p → U ≡ T → Figures s j ns T U m (refused n p)
  figured : {k : Contents} {mss : List (List Mark)} {q : ℕ} {rs : List Record} → sheet_in s ≡ accepted k → length T ≡ table_words (meant k) → m ≡ length k.places
      → LengthsFit ns (length j) → marks_from (names_in s k) k.window 0 (texts_in ns j) ≡ got mss q → Ran k (names_in s k) mss U rs → Figures s j ns T U m (accepted rs)
