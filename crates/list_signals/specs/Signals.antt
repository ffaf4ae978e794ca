-- What the listing prints of its signals (01, "The listing program"), and what a table must have to be listed.
-- Assumes nothing. W is the window, f x t the answer to ask at signal x and tick t.
use Rattle.std.specs.Prelude.{◌≡◌, Bool, true, List, [], ◌∷◌, ◌++◌, ◌↔◌, ℕ, zero, suc, ◌*◌, ◌<◌, ◌≤◌, length, get_or}
use Rattle.read_bytes.specs.Bytes.{byte, bytes}
use Rattle.spec_tilco.specs.Inference.{Marks, Clash}
use Rattle.spec_tilco.specs.Table.{Stands, Answer, Unsettled, True, False, Contradiction, Asked}
use Rattle.write_lines.specs.LineTexts.{line_text}

-- "One sign a tick: 1, 0, ? unsettled, and x in every place when clash is 1."
abbrev pub sign_byte : Answer → ℕ
sign_byte Unsettled = byte "?"
sign_byte True = byte "1"
sign_byte False = byte "0"
sign_byte Contradiction = byte "x"

-- The signs of a signal's answers at n ticks from t on.
unfoldable pub signs : (ℕ → Answer) → ℕ → ℕ → List ℕ
signs f t zero = []
signs f t (suc n) = sign_byte (f t) ∷ signs f (suc t) n

-- A signal: its name, and its marks.
unfoldable pub signal_text : List ℕ → List ℕ → List ℕ
signal_text name marks = line_text (bytes "signal=") name ++ line_text (bytes "marks=") marks

-- The signals with these numbers, one after the other, each with its name.
unfoldable pub signals_text : ℕ → (ℕ → ℕ → Answer) → List (List ℕ) → List ℕ → List ℕ
signals_text W f names [] = []
signals_text W f names (x ∷ xs) = signal_text (get_or names x []) (signs (f x) 0 W) ++ signals_text W f names xs

-- A table T of n words a row and value can be listed for k signals: it has their rows, its words cover the window, and clash says whether a row clashes.
pub record Listable (k W n : ℕ) (T : List ℕ) (clash : Bool) : Type 0 where
  pub rows : 2 * k * n ≤ length T
  pub ticks : W ≤ n * 64
  pub clashes : (clash ≡ true) ↔ Clash (Stands n T)

-- f is what ask answers for signal x at each tick of the window.
abbrev pub AnswersAt : Marks → ℕ → ℕ → (ℕ → Answer) → Type 0
AnswersAt S x W f = (t : ℕ) → t < W → Asked S x t (f t)

-- f is what ask answers for each of k signals.
abbrev pub Answers : Marks → ℕ → ℕ → (ℕ → ℕ → Answer) → Type 0
Answers S k W f = (x : ℕ) → x < k → AnswersAt S x W (f x)
