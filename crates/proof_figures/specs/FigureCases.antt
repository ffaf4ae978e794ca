-- The refusals of figures by their listed cases in their order (E1).
-- Assumes nothing. `s` is the sheet's text and k its contents, j the joined readings texts, ns their lengths, T the work table, m how many records are lent; n is the number and p the place.
use Rattle.std.specs.Prelude.{◌≡◌, List, ◌⊎◌, ℕ, ◌+◌, ◌<◌, ◌≤◌, length, get_or, take, drop}
use Rattle.spec_limits.specs.Limits.{most_bytes, most_runs}
use Rattle.spec_tilco.specs.Lists.{total}
use Rattle.spec_tilco.specs.Inference.{Mark}
use Rattle.spec_tilco.specs.Table.{table_words}
use Rattle.read_sheet.specs.Sheet.{Contents, meant}
use Rattle.open_sheet.specs.Results.{refused}
use Rattle.open_sheet.specs.SheetIn.{names_in}
use Rattle.spec_operations.specs.Operations.{checked}
use Rattle.spec_grammar.specs.ReadingLines.{ReadingsFault}
use Rattle.proof_demands.specs.Refusals.{SheetAccepted, ReadingsAccepted}
use Rattle.spec_figures.specs.Texts.{LengthsFit}

-- Where text i starts in the joined slice: the lengths before it add up to that.
unfoldable pub start_of : List ℕ → ℕ → ℕ
start_of ns i = total (λ n. n) (take i ns)

-- Text i: as many bytes from there on as its length says.
unfoldable pub text_at : List ℕ → List ℕ → ℕ → List ℕ
text_at ns j i = take (get_or ns i 0) (drop (start_of ns i) j)

-- A text's own refusals: 10 at its first byte, or that of its first line at fault.
pub data TextRefused (s : List ℕ) (k : Contents) (r : List ℕ) : ℕ → ℕ → Type 0 where
  ten : most_bytes < length r → TextRefused s k r 10 0
  line_by_line : {n p : ℕ} → length r ≤ most_bytes → ReadingsFault (names_in s k) k.window r n p → TextRefused s k r n p

-- "Then each text's own in turn": text i is refused, by n at its place p, and every text before it is accepted.
pub record FirstRefused (s : List ℕ) (k : Contents) (ns j : List ℕ) (i n p : ℕ) : Type 0 where
  pub among : i < length ns
  pub refuses : TextRefused s k (text_at ns j i) n p
  pub before : (h : ℕ) → h < i → (ms : List Mark) × ReadingsAccepted s k (text_at ns j h) ms

-- The sheet, the work table and the list of records are accepted.
pub record LentRight (s T : List ℕ) (m : ℕ) (k : Contents) : Type 0 where
  pub sheet : SheetAccepted s k
  pub long : length T ≡ table_words (meant k)
  pub many : m ≡ length k.places

-- The refusals: what check refuses, and "after 9, 15 for the work table, then 18 when the list's length isn't the signal count, then 19 for over 64 lengths or a sum that isn't the slice's
-- length, then each text's own in turn", which "has its place counted in the joined slice".
pub data FiguresRefused (s j ns T : List ℕ) (m : ℕ) : ℕ → ℕ → Type 0 where
  up_to_nine : {n p : ℕ} → checked s ≡ refused n p → FiguresRefused s j ns T m n p
  fifteen : {k : Contents} → SheetAccepted s k → (length T ≡ table_words (meant k) → ⊥) → FiguresRefused s j ns T m 15 0
  eighteen : {k : Contents} → SheetAccepted s k → length T ≡ table_words (meant k) → (m ≡ length k.places → ⊥) → FiguresRefused s j ns T m 18 0
  nineteen : {k : Contents} → LentRight s T m k → (most_runs < length ns) ⊎ (total (λ n. n) ns ≡ length j → ⊥) → FiguresRefused s j ns T m 19 0
  of_a_text : {k : Contents} {i n p : ℕ} → LentRight s T m k → LengthsFit ns (length j) → FirstRefused s k ns j i n p → FiguresRefused s j ns T m n (start_of ns i + p)
