-- What reading and lowering a sheet's rules answers, and what it leaves in the row buffer and in the tops (01, "Lowering, row by row").
-- Assumes nothing. R is what the rules' lines hold and n how many signals are declared; B' are the buffers after.
use Rattle.std.specs.Prelude.{◌≡◌, ◌⊎◌, Some, List, ℕ, ◌+◌, ◌<◌, ◌≤◌, length, Result, Ok, Err}
use Rattle.spec_limits.specs.Limits.{most_hidden, most_rows, most_tops}
use Rattle.read_bytes.specs.Read.{Read}
use Rattle.read_bytes.specs.Read.Read.{got, refused}
use Rattle.spec_tilco.specs.Lists.{total}
use Rattle.spec_tilco.specs.Formula.{Written}
use Rattle.spec_tilco.specs.Lowering.{size}
use Rattle.read_sheet.specs.RuleAnswers.{AllRules}
use Rattle.lower_rows.specs.RowCodes.{Blank}
use Rattle.lower_rows.specs.RowWrites.{no_room_lem}
use Rattle.lower_rule.specs.RuleRows.{Buffers, LowersAll, all_lowered_says}
use Rattle.lower_rule.specs.declared.rules.InUse.{InUse}
use Rattle.lower_lines.specs.declared.RuleLines.{RuleLines}
use Rattle.spec_refusals.specs.Numbers.{fault_number, Refusal}
use Rattle.lower_lines.specs.InTurn.{spelled_all}

-- The buffers as they are lent: no row, and a place for each row and for each top that a sheet may have.
pub record Lent (m ts : List ℕ) : Type 0 where
  pub blank : Blank m
  pub long : length m ≡ most_rows
  pub wide : length ts ≡ most_tops

-- The rules ws with h hidden signals are lowered after all signals, into buffers as they are lent.
pub record InPlace (ws : List Written) (n h : ℕ) (u : InUse) (B' : Buffers) : Type 0 where
  pub start : Buffers
  pub lent : Lent start.rows start.tops
  pub few : h ≤ most_hidden
  pub done : LowersAll (spelled_all ws n) (n + h) 0 start B' (Some u)

-- They are, or they are over their size. "Over 32 hidden signals or 1,024 rows": 9 at 0.
pub data FitOrOver (ws : List Written) (n h : ℕ) (B' : Buffers) : Read ℕ → Type 0 where
  fits : {u : InUse} → InPlace ws n h u B' → FitOrOver ws n h B' (got u.tops u.rows)
  over : (most_hidden < h) ⊎ (most_rows < n + h + total size (spelled_all ws n)) → FitOrOver ws n h B' no_room_lem

-- What the answer of reading and lowering a sheet's rules says.
abbrev pub RulesStand : Read (List Written) → ℕ → Buffers → Result RuleLines Refusal → Type 0
RulesStand R n B' (Ok l) = (w : AllRules R l.hidden l.end) × FitOrOver w.all n l.hidden B' (all_lowered_says l.lowered)
RulesStand R n B' (Err r) = R ≡ refused (fault_number r.fault) r.place
