-- A sheet, from its first line to its last (01, "The sheet" and "Numbers of refusal" 1 to 8).
-- Assumes nothing. `s` is the sheet's text and p a place in it; `names` are the declared names in sheet order.
use Rattle.std.specs.Prelude.{ℕ, ◌+◌, ◌-◌, ◌≤◌, List, [], ◌∷◌, ◌++◌, length, take, leb, eqb}
use Rattle.spec_limits.specs.Limits.{most_bytes, most_offset, most_rule_bytes}
use Rattle.read_bytes.specs.Read.{Read, and_then}
use Rattle.read_bytes.specs.Read.Read.{got, refused}
use Rattle.read_bytes.specs.Bytes.{byte, bytes, pick, between}
use Rattle.read_names.specs.Spellings.{names_at}
use Rattle.read_lines.specs.Lines.{line, in_turn}
use Rattle.spec_tilco.specs.Formula as tilco
use Rattle.spec_tilco.specs.Formula.{Written}
use Rattle.read_parts.specs.FormulaText.{rule}
use Rattle.read_head.specs.SheetHead.{head}

-- A rule from v to its LF at e, and the place after the line. "A rule has 1 to 256 bytes", else 5 at v, before its formula is read.
unfoldable pub rule_to : List (List ℕ) → List ℕ → ℕ → ℕ → Read Written
rule_to names s v e = pick (between 1 most_rule_bytes (e - v)) (λ _. and_then (rule names (take e s) v) (λ w q. got w (e + 1))) (refused 5 v)

-- The line `rule=` with a rule.
unfoldable pub rule_line : List (List ℕ) → List ℕ → ℕ → Read Written
rule_line names s p = and_then (line s p (bytes "rule=") 2) (λ v e. rule_to names s v e)

-- The lines of m rules.
unfoldable pub rules : List (List ℕ) → List ℕ → ℕ → ℕ → Read (List Written)
rules names s m p = in_turn (λ _ q. rule_line names s q) m [] p

-- What a sheet says: the window, the place of each signal's name, and the rules.
pub record Contents : Type 0 where
  pub window : ℕ
  pub places : List ℕ
  pub rules : List Written

-- Contents of these parts.
abbrev pub contents : ℕ → List ℕ → List Written → Contents
contents w places ws = record { window = w; places = places; rules = ws }

-- "Then the end": 2 at bytes that follow the last line, which ends at q.
abbrev pub at_end : List ℕ → Contents → ℕ → Read Contents
at_end s k q = pick (eqb q (length s)) (λ _. got k q) (refused 2 q)

-- A whole sheet, at most 32,768 bytes.
unfoldable pub sheet_of : List ℕ → Read Contents
sheet_of s =
    pick (leb (length s) most_bytes) (λ _.
    and_then (head s) (λ h p.
    and_then (rules (names_at s h.places) s h.count p) (λ ws q. at_end s (contents h.window h.places ws) q)))
    (refused 1 0)

-- The sheet that is meant: each signal by its number.
abbrev pub meant : Contents → tilco.Sheet
meant k = record { window = k.window; signals = length k.places; rules = k.rules }

-- The line of a rule with this text.
unfoldable pub rule_line_of : List ℕ → List ℕ
rule_line_of body = bytes "rule=" ++ (body ++ (byte "\n" ∷ []))

-- The lines of rules with these texts.
unfoldable pub rule_lines : List (List ℕ) → List ℕ
rule_lines [] = []
rule_lines (body ∷ bodies) = rule_line_of body ++ rule_lines bodies

-- A sheet's text, of its head's text and its rules' texts.
abbrev pub sheet_text : List ℕ → List (List ℕ) → List ℕ
sheet_text h bodies = h ++ rule_lines bodies

-- The interval has whole numbers from -63 to 63 only (refusal 7).
abbrev pub near : ℕ → ℕ → Type 0
near first more = (1 ≤ first) × (first + more ≤ most_offset)

-- Every interval in the rule has, as reading it ensures.
abbrev pub Near : Written → Type 0
Near = tilco.Intervals near
