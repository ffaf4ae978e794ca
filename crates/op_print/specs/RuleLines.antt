-- Where a rule's line is, and what is printed of it.
-- Assumes nothing. `s` is the sheet's text, T the index of the names in it.
use Rattle.std.specs.Prelude.{◌≡◌, List, ℕ, zero, suc, ◌+◌, ◌≤◌, length}
use Rattle.read_bytes.specs.Read.{Read}
use Rattle.read_bytes.specs.Read.Read.{got, refused as unread}
use Rattle.read_bytes.specs.Bytes.{bytes}
use Rattle.read_lines.specs.Lines.{line_end}
use Rattle.read_index.specs.Index.{places_in, names_in, IndexOf}
use Rattle.spec_tilco.specs.Formula.{Written}
use Rattle.spec_tilco.specs.Lists.{All}
use Rattle.read_sheet.specs.Sheet.{rule_line, Contents}
use Rattle.open_sheet.specs.Results.{Result, accepted, refused}
use Rattle.open_sheet.specs.SheetIn.{sheet_in}
use Rattle.spec_print.specs.RuleTexts.{printed}
use Rattle.spec_print.specs.Printing.{with_room}

-- The place of rule r's line, where that of the first one is p.
unfoldable pub line_of : List ℕ → ℕ → ℕ → ℕ
line_of s zero p = p
line_of s (suc r) p = line_of s r (line_end s (p + length (bytes "rule=")) + 1)

-- What is printed of a rule that is read, or its refusal.
abbrev pub printed_line : List (List ℕ) → ℕ → Read Written → Result (List ℕ)
printed_line names room (got f q) = with_room room (printed names f)
printed_line names room (unread n p) = refused n p

-- A rule's line may be read at p: the names stand before it.
pub record LineAt (s T : List ℕ) (p : ℕ) : Type 0 where
  pub within : p ≤ length s
  pub before : All (λ v. v ≤ p) (places_in T)
  pub index : IndexOf s T

-- A rule was read there.
pub record RuleAt (s T : List ℕ) (p : ℕ) : Type 0 where
  pub line : LineAt s T p
  pub rule : Written
  pub end : ℕ
  pub reads : rule_line (names_in s T) s p ≡ got rule end

-- The sheet is accepted, and T is the index of its names.
pub record OpenedNames (s T : List ℕ) : Type 0 where
  pub contents : Contents
  pub sheet : sheet_in s ≡ accepted contents
  pub names_are : places_in T ≡ contents.places
  pub index : IndexOf s T
