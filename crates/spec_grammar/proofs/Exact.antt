-- A text is read as a rule exactly if its tokens stand in the grammar, and as the formula for which they stand.
-- Assumes nothing.
use mathlib.Core.Path.{◌≡◌, sym, ◌∙◌}
use mathlib.Core.Logic.{◌↔◌}
use mathlib.Core.List.{List}
use Prim.Native.Nat.{ℕ}
use lib.ListN.{length}
use Rattle.spec_limits.specs.Limits.{most_open}
use Rattle.read_bytes.specs.Read.Read.{got}
use Rattle.read_bytes.proofs.Answers.{same_value}
use Rattle.spec_tilco.specs.Formula.{Written}
use Rattle.read_parts.specs.FormulaText.{rule}
use Rattle.spec_grammar.specs.Tokens.{Tokens}
use Rattle.spec_grammar.specs.Grammar.{formula, Is, Declared, Legal, Rule}
use Rattle.spec_grammar.proofs.Sound.{rule_sound}
use Rattle.spec_grammar.proofs.Complete.{rule_complete}

module _ (names : List (List ℕ)) (s : List ℕ) (p : ℕ) where
  pub rule_exact : (f : Written) → (rule names s p ≡ got f (length s)) ↔ Rule names s p f
  rule_exact f = (λ e. (rule_sound names s p e).0, rule_complete names s p)

  -- The grammar is unambiguous: the tokens of a text are a rule in one way at most.
  pub one_formula : {f g : Written} → Rule names s p f → Rule names s p g → f ≡ g
  one_formula h k = same_value (sym (rule_complete names s p h) ∙ rule_complete names s p k)

  pub unambiguous : {ws : List (List ℕ)} {f g : Written} → Tokens s (length s) p ws → Is (Declared names) Legal formula most_open ws f → Is (Declared names) Legal formula most_open ws g → f ≡ g
  unambiguous {ws} t h k = one_formula (record { tokens = ws; stand = t; is = h }) (record { tokens = ws; stand = t; is = k })
