-- Sheets' texts with their rules' lines shuffled, and what is said alike of them (demand 3: shuffling rules).
-- Assumes nothing. `s` and s' are sheets' texts, k and k' their contents, U and U' tables.
use Rattle.std.specs.Prelude.{◌≡◌, List, [], ◌↔◌, ℕ, length}
use Rattle.spec_tilco.specs.Lists.{All}
use Rattle.spec_tilco.specs.Inference.{Clash}
use Rattle.spec_tilco.specs.Table.{Standing, facts_of, Answer}
use Rattle.spec_grammar.specs.SheetLines.{Next, Reached}
use Rattle.read_sheet.specs.Sheet.{Contents, meant, sheet_text}
use Rattle.open_sheet.specs.Results.{Result}
use Rattle.spec_operations.specs.Gain.{Gain}
use Rattle.read_bytes.specs.Bytes.{InLine}
use Rattle.spec_operations.specs.Operations.{Asks}

-- h is the text of a head: all its lines are right, and it counts the rules with these texts, each of which is within its line.
pub record Parted (h : List ℕ) (bodies : List (List ℕ)) : Type 0 where
  pub window : ℕ
  pub places : List ℕ
  pub lines : Reached h (Next.rule window places (length bodies) []) (length h)
  pub in_lines : All InLine bodies

-- A sheet's text in such parts.
pub record InParts (s : List ℕ) : Type 0 where
  pub head_text_lem : List ℕ
  pub bodies : List (List ℕ)
  pub parted : Parted head_text_lem bodies
  pub whole : s ≡ sheet_text head_text_lem bodies

-- What is said alike after two runs: add's answers, ask's answers, the fact total, the clash.
pub record SaidAlike (s s' : List ℕ) (k k' : Contents) (U U' : List ℕ) (answers answers' : List (Result Gain)) : Type 0 where
  pub adds : answers ≡ answers'
  pub values : (x t : ℕ) (a : Result Answer) → Asks s U x t a ↔ Asks s' U' x t a
  pub facts : facts_of (meant k) U ≡ facts_of (meant k') U'
  pub clash : Clash (Standing (meant k) U) ↔ Clash (Standing (meant k') U')
