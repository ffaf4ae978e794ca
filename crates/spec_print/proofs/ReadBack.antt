-- A rule that was read, printed back: its text is read as the same formula, no text of that formula has fewer parentheses, and it is at most twice as long.
-- Assumes nothing. `names` are the declared names' texts.
use mathlib.Core.Path.{◌≡◌, sym, ap, subst, ◌∙◌}
use mathlib.Core.Bool.{false}
use mathlib.Core.List.{List, [], append-nil, flatten}
use Prim.Native.Nat.{ℕ, ◌-◌, ◌*◌, ◌≤◌}
use native.Mathlib.Omega.{arith}
use lib.ListN.{length}
use Rattle.spec_limits.specs.Limits.{most_open}
use Rattle.read_bytes.specs.Read.Read.{got}
use Rattle.read_bytes.specs.Bytes.{peek, name_byte, InLine}
use Rattle.read_bytes.proofs.Answers.{same_value}
use Rattle.read_bytes.proofs.Places.{peek_out}
use Rattle.spec_tilco.specs.Formula.{Written}
use Rattle.write_bytes.proofs.Standing.{starts_self}
use Rattle.read_parts.specs.FormulaText.{rule}
use Rattle.spec_grammar.specs.Grammar.{formula, Is, Declared, Legal}
use Rattle.spec_grammar.proofs.Sound.{rule_sound}
use Rattle.spec_grammar.proofs.Complete.{rule_complete}
use Rattle.spec_print.specs.RuleTexts.{tokens_in, printed, IsRule}
use Rattle.spec_print.specs.Parentheses.{opened, LeavesPairOut}
use Rattle.spec_print.proofs.Counts.{opened_less}
use Rattle.spec_print.proofs.TokenTexts.{TextFrom, tokens_of, text_of, whole_text}
use Rattle.spec_print.proofs.OneLine.{tokens_in_line, is_some}
use Rattle.spec_print.proofs.Fitting.{fits, fitted, few_in, short_in}

-- A text stands in itself, and LF follows it.
whole : (ws : List (List ℕ)) → TextFrom (flatten ws) 0 ws (length (flatten ws))
whole ws = record { stands = rw (append-nil (flatten ws)) at (starts_self (flatten ws) []); end = omega arith }

end_not_named : (t : List ℕ) → name_byte (peek t (length t)) ≡ false
unfolding name_byte
end_not_named t = rw (peek_out t (length t) (omega arith))

module _ {names : List (List ℕ)} where
  -- What is printed of a rule stands in the grammar.
  is_printed_lem : {f : Written} → IsRule names f → Is (Declared names) Legal formula most_open (tokens_in names formula f) f
  is_printed_lem h = fitted names (fits names (rule_sound names h.text h.place h.reads).0.is)

  -- "Reading the written text gives the same formula."
  pub read_back : {f : Written} → IsRule names f → rule names (printed names f) 0 ≡ got f (length (printed names f))
  unfolding printed
  read_back {f} h =
      let ws = tokens_in names formula f in
      let x = is_printed_lem h in
      rule_complete names (flatten ws) 0 (record { tokens = ws; stand = tokens_of x (whole ws) (end_not_named (flatten ws)); is = x })

  -- It can stand in a rule's line.
  pub in_one_line : {f : Written} → IsRule names f → InLine (printed names f)
  unfolding printed
  in_one_line {f} h =
      let ws = tokens_in names formula f in
      tokens_in_line ws (tokens_of (is_printed_lem h) (whole ws) (end_not_named (flatten ws)))

  pub not_empty : {f : Written} → IsRule names f → 1 ≤ length (printed names f)
  unfolding printed
  not_empty h = is_some (is_printed_lem h)

  -- "Writing it again changes no byte."
  pub print_again : {f g : Written} {q : ℕ} → IsRule names f → rule names (printed names f) 0 ≡ got g q → printed names g ≡ printed names f
  print_again h e = ap (printed names) (same_value (sym e ∙ read_back h))

  -- Two rules with one text are one.
  pub one_text : {f g : Written} → IsRule names f → IsRule names g → printed names f ≡ printed names g → f ≡ g
  one_text h k e = same_value (sym (read_back h) ∙ ap (λ w. rule names w 0) e ∙ read_back k)

module _ (names : List (List ℕ)) where
  -- No text that is read as the rule has fewer parentheses,
  pub fewest : (v : List ℕ) {f : Written} {q : ℕ} → rule names v 0 ≡ got f q → opened (printed names f) ≤ opened v
  unfolding printed
  fewest v {f} e =
      let r = (rule_sound names v 0 e).0 in
      subst (λ w. opened (printed names f) ≤ opened w) (sym (whole_text r.stand)) (few_in names (fits names r.is))

  -- so no pair can be left out: the text without it is read as another formula, or as none.
  pub none_left_out : {f g : Written} {v : List ℕ} {q : ℕ} → LeavesPairOut (printed names f) v → rule names v 0 ≡ got g q → g ≡ f → ⊥
  none_left_out {f} {g} {v} {q} l e h =
      let m = fewest v (subst (λ x. rule names v 0 ≡ got x q) h e) in
      omega (arith, opened_less l)

  -- Square brackets can be longer than round ones, but the text is at most twice as long.
  pub at_most_twice : (s : List ℕ) (p : ℕ) {f : Written} {q : ℕ} → rule names s p ≡ got f q → length (printed names f) ≤ 2 * (length s - p)
  unfolding printed
  at_most_twice s p e =
      let r = (rule_sound names s p e).0 in
      let t = text_of r.tokens r.stand (omega arith) in
      omega (arith, short_in names (fits names r.is), t.1)
