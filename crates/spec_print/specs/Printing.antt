-- What printing a rule back answers and leaves in the lent buffer (E3).
-- Assumes nothing. `s` is the sheet's text, r the rule's number, O the buffer before and O' after.
use Rattle.std.specs.Prelude.{◌&&◌, List, [], ◌∷◌, ℕ, zero, suc, leb, length}
use Rattle.std.proofs.Math.Option.{Option, none, some}
use Rattle.spec_limits.specs.Limits.{most_rule_bytes}
use Rattle.read_bytes.specs.Bytes.{pick}
use Rattle.spec_tilco.specs.Formula.{Written}
use Rattle.read_sheet.specs.Sheet.{Contents}
use Rattle.open_sheet.specs.Results.{Result, accepted, refused}
use Rattle.open_sheet.specs.SheetIn.{sheet_in, names_in}
use Rattle.spec_operations.specs.TextAnswers.{Gives}
use Rattle.spec_print.specs.RuleTexts.{printed}

-- The rule with a number, "from 0", if there is one.
unfoldable pub rule_at : List Written → ℕ → Option Written
rule_at [] r = none
rule_at (f ∷ fs) zero = some f
rule_at (f ∷ fs) (suc r) = rule_at fs r

-- "Then 20, also for text over 256 bytes."
unfoldable pub with_room : ℕ → List ℕ → Result (List ℕ)
with_room room t = pick (leb (length t) most_rule_bytes && leb (length t) room) (λ _. accepted t) (refused 20 0)

-- "17 when the rule number is outside its range."
abbrev pub printed_rule : List (List ℕ) → ℕ → Option Written → Result (List ℕ)
printed_rule names room none = refused 17 0
printed_rule names room (some f) = with_room room (printed names f)

-- "After the sheet's own."
abbrev pub printed_of : List ℕ → ℕ → ℕ → Result Contents → Result (List ℕ)
printed_of s r room (accepted k) = printed_rule (names_in s k) room (rule_at k.rules r)
printed_of s r room (refused n p) = refused n p

-- The text of rule r as it is printed back into a buffer with so much room, or a refusal.
unfoldable pub printing : List ℕ → ℕ → ℕ → Result (List ℕ)
printing s r room = printed_of s r room (sheet_in s)

-- What printing rule r of a sheet promises.
abbrev pub PrintsRule : List ℕ → ℕ → List ℕ → List ℕ → Result ℕ → Type 0
PrintsRule s r O O' a = Gives (printing s r (length O)) O O' a
