-- The refusals of printing a rule by their listed cases in their order, what stands in the buffer after it, and a sheet with rules replaced by what is printed of them (E3).
-- Assumes nothing. `s` is the sheet's text, r the rule's number, O the lent buffer before and O' after; n is the number and p the place.
use Rattle.std.specs.Prelude.{◌≡◌, List, [], ◌∷◌, ◌++◌, ◌⊎◌, ℕ, ◌<◌, ◌≤◌, length, drop}
use Rattle.std.proofs.Math.Option.{some}
use Rattle.spec_limits.specs.Limits.{most_rule_bytes}
use Rattle.spec_tilco.specs.Formula.{Written}
use Rattle.read_sheet.specs.Sheet.{Contents}
use Rattle.open_sheet.specs.SheetIn.{names_in}
use Rattle.proof_demands.specs.Refusals.{SheetAccepted, SheetRefused}
use Rattle.spec_print.specs.RuleTexts.{printed}
use Rattle.spec_print.specs.Printing.{rule_at}

-- t is what is printed of rule r, which is f, of an accepted sheet.
pub record RuleText (s : List ℕ) (r : ℕ) (k : Contents) (f : Written) (t : List ℕ) : Type 0 where
  pub sheet : SheetAccepted s k
  pub rule : rule_at k.rules r ≡ some f
  pub text : t ≡ printed (names_in s k) f

-- "After the sheet's own, 17 when the rule number, from 0, is outside its range, then 20, also for text over 256 bytes."
pub data PrintRefused (s : List ℕ) (r : ℕ) (O : List ℕ) : ℕ → ℕ → Type 0 where
  up_to_nine : {n p : ℕ} → SheetRefused s n p → PrintRefused s r O n p
  seventeen : {k : Contents} → SheetAccepted s k → length k.rules ≤ r → PrintRefused s r O 17 0
  twenty : {k : Contents} {f : Written} {t : List ℕ} → RuleText s r k f t → (most_rule_bytes < length t) ⊎ (length O < length t) → PrintRefused s r O 20 0

-- The text stands at the buffer's first place, its length is answered, and the rest of the buffer stays.
pub record PrintedIn (s : List ℕ) (r : ℕ) (O O' : List ℕ) (n : ℕ) : Type 0 where
  pub contents : Contents
  pub rule : Written
  pub text : List ℕ
  pub is_text : RuleText s r contents rule text
  pub in_limit : length text ≤ most_rule_bytes
  pub in_room : length text ≤ length O
  pub answer : n ≡ length text
  pub buffer : O' ≡ text ++ drop (length text) O

-- The rules' texts of a sheet, some of them replaced by what is printed of the rule.
pub data Replaced (names : List (List ℕ)) : List (List ℕ) → List Written → List (List ℕ) → Type 0 where
  end : Replaced names [] [] []
  kept : {t : List ℕ} {f : Written} {ts us : List (List ℕ)} {fs : List Written} → Replaced names ts fs us → Replaced names (t ∷ ts) (f ∷ fs) (t ∷ us)
  replaced : {t : List ℕ} {f : Written} {ts us : List (List ℕ)} {fs : List Written} → length (printed names f) ≤ most_rule_bytes → Replaced names ts fs us → Replaced names (t ∷ ts) (f ∷ fs) (printed names f ∷ us)
