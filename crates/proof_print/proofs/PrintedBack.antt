-- The user's sentences about what is printed of a rule (E3).
-- Assumes nothing. `s` is the sheet's text, r the rule's number; the text is the first n bytes of the buffer O' that the call leaves.
use mathlib.Core.Path.{◌≡◌, sym, ap, subst, ◌∙◌}
use mathlib.Core.List.{List}
use Prim.Native.Nat.{ℕ, ◌≤◌}
use lib.ListN.{length, take, drop}
use lib.Seq.{take_at}
use Rattle.read_bytes.specs.Read.Read.{got}
use Rattle.spec_tilco.specs.Formula.{Written}
use Rattle.read_parts.specs.FormulaText.{rule}
use Rattle.read_sheet.specs.Sheet.{Contents}
use Rattle.open_sheet.specs.SheetIn.{names_in}
use Rattle.open_table.proofs.Tables.{accepted_one}
use Rattle.proof_demands.proofs.Refusals.{in_sheet_text}
use Rattle.spec_print.specs.RuleTexts.{printed, IsRule}
use Rattle.spec_print.specs.Parentheses.{opened, LeavesPairOut}
use Rattle.spec_print.proofs.ReadBack.{read_back, print_again, one_text, fewest, none_left_out}
use Rattle.op_print.proofs.Outcomes.{rule_is}
use Rattle.proof_print.specs.PrintCases.{PrintedIn}

module _ {s : List ℕ} {r : ℕ} {O O' : List ℕ} {n : ℕ} (x : PrintedIn s r O O' n) where
  abbrev names : List (List ℕ)
  names = names_in s x.contents

  -- The first n bytes of the buffer are what is printed of the rule.
  pub in_buffer : take n O' ≡ printed names x.rule
  in_buffer = rw x.buffer (take_at x.text (drop (length x.text) O) n (sym x.answer)) ∙ x.is_text.text

  pub is_rule : IsRule names x.rule
  is_rule = rule_is s r (in_sheet_text s x.is_text.sheet) x.is_text.rule

  -- "Reading the written text gives the same formula, apart from brackets that name the same ticks": those are the same formula.
  pub reads_back : rule names (take n O') 0 ≡ got x.rule n
  reads_back = rw (in_buffer, x.answer, x.is_text.text) (read_back is_rule)

  -- "And writing it again changes no byte."
  pub prints_again : {f : Written} {q : ℕ} → rule names (take n O') 0 ≡ got f q → printed names f ≡ take n O'
  prints_again {f} {q} e = print_again is_rule (subst (λ t. rule names t 0 ≡ got f q) in_buffer e) ∙ sym in_buffer

  -- "With parentheses only where the grammar needs them": without a pair of them the text is read as another formula, or as none,
  pub pair_needed : {v : List ℕ} {f : Written} {q : ℕ} → LeavesPairOut (take n O') v → rule names v 0 ≡ got f q → f ≡ x.rule → ⊥
  pair_needed {v} l e f = none_left_out names (subst (λ t. LeavesPairOut t v) in_buffer l) e f

  -- and no other text that is read as the rule has fewer.
  pub fewest_pairs : (v : List ℕ) {q : ℕ} → rule names v 0 ≡ got x.rule q → opened (take n O') ≤ opened v
  fewest_pairs v e = rw in_buffer (fewest names v e)

-- Two rules of a sheet with one text are one formula.
pub same_text : {s : List ℕ} {r u : ℕ} {O O' Q Q' : List ℕ} {n m : ℕ} (x : PrintedIn s r O O' n) (y : PrintedIn s u Q Q' m) → take n O' ≡ take m Q' → x.rule ≡ y.rule
same_text {s} x y e =
    let k : x.contents ≡ y.contents = accepted_one (sym (in_sheet_text s x.is_text.sheet) ∙ in_sheet_text s y.is_text.sheet) in
    let z = subst (λ c. IsRule (names_in s c) y.rule) (sym k) (is_rule y) in
    one_text (is_rule x) z (sym (in_buffer x) ∙ e ∙ in_buffer y ∙ ap (λ (c : Contents). printed (names_in s c) y.rule) (sym k))
