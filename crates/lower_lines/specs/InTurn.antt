-- What reading and lowering the lines of a sheet's rules in turn answers, and what it leaves in the row buffer and in the tops (01, "Lowering, row by row").
-- Assumes nothing. R is what the rules' lines hold and n how many signals are declared; B are the buffers before and B' after.
use Rattle.std.specs.Prelude.{◌≡◌, ◌⊎◌, Option, Some, List, ◌++◌, ℕ, ◌+◌, ◌<◌, ◌≤◌, length, Result, Ok, Err}
use Rattle.spec_limits.specs.Limits.{most_rules, most_rows, most_tops}
use Rattle.read_bytes.specs.Read.{Read}
use Rattle.read_bytes.specs.Read.Read.{got, refused}
use Rattle.spec_tilco.specs.Lists.{All, total, laid}
use Rattle.spec_tilco.specs.Formula.{Written, hiddens, spelled}
use Rattle.spec_tilco.specs.Lowering.{BTL, size, lows}
use Rattle.read_index.specs.Index.{places_in, names_in, IndexOf}
use Rattle.read_sheet.specs.Sheet.{rules}
use Rattle.read_sheet.specs.RuleAnswers.{AllRules}
use Rattle.lower_rule.specs.RuleRows.{Buffers, LowersAll, all_lowered_says}
use Rattle.lower_rows.specs.RowWrites.{RowBuffer, no_room_lem}
use Rattle.lower_rule.specs.declared.rules.InUse.{InUse}
use Rattle.lower_lines.specs.declared.RuleLines.{RuleLines}
use Rattle.spec_refusals.specs.Numbers.{fault_number, Refusal}

-- The lines of m rules can be read from p on: the names stand before them.
pub record Legible (s names : List ℕ) (m p : ℕ) : Type 0 where
  pub within : p ≤ length s
  pub before : All (λ v. v ≤ p) (places_in names)
  pub index : IndexOf s names
  pub most : m ≤ most_rules

-- What the m lines from p on hold, where the names are those of an index.
abbrev pub rules_at : List ℕ → List ℕ → ℕ → ℕ → Read (List Written)
rules_at s names m p = rules (names_in s names) s m p

-- The buffers have a place for each row and for each top that a sheet may have.
pub record FullSize (B : Buffers) : Type 0 where
  pub long : length B.rows ≡ most_rows
  pub wide : length B.tops ≡ most_tops

-- What the rules ws come to: each is lowered, followed by the defining rules of its hidden signals.
abbrev pub spelled_all : List Written → ℕ → List BTL
spelled_all ws n = lows (laid hiddens spelled ws n)

-- The formulas cs are lowered, from row b and from the first top on; or there is no room for their rows or for their tops.
pub data Tried (cs : List BTL) (b : ℕ) (B B' : Buffers) : Read ℕ → Type 0 where
  went : {u : InUse} → length cs ≤ length B.tops → LowersAll cs b 0 B B' (Some u) → Tried cs b B B' (got u.tops u.rows)
  full : (length B.rows < b + total size cs) ⊎ (length B.tops < length cs) → Tried cs b B B' no_room_lem

-- The first `at` tops and the first `used` rows are in use.
pub record UsedIn (B : Buffers) (at used : ℕ) : Type 0 where
  pub tops_in : at ≤ length B.tops
  pub buffer : RowBuffer B.rows used

-- What is lowered is in use.
abbrev pub RoomIn : Buffers → Read ℕ → Type 0
RoomIn B (got at used) = UsedIn B at used
RoomIn B (refused n p) = Unit {0}

-- The formulas ds follow: where r says how far some were lowered, r' says it of them and of ds.
abbrev pub Follows : List BTL → Buffers → Buffers → Option InUse → Option InUse → Type 0
Follows ds B B' r r' =
    (cs : List BTL) (b : ℕ) (B₀ : Buffers) → Tried cs b B₀ B (all_lowered_says r) → Tried (cs ++ ds) b B₀ B' (all_lowered_says r')

-- What the answer of reading the rules' lines says, with their rows from row b on.
abbrev pub RulesRead : Read (List Written) → ℕ → ℕ → Buffers → Buffers → Result RuleLines Refusal → Type 0
RulesRead R n b B B' (Ok l) = (w : AllRules R l.hidden l.end) × Tried (spelled_all w.all n) b B B' (all_lowered_says l.lowered)
RulesRead R n b B B' (Err r) = R ≡ refused (fault_number r.fault) r.place
