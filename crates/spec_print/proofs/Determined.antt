-- Printing a rule has one outcome for every input, and two outcomes for one input coincide.
-- Assumes nothing. `s` is the sheet's text, r the rule's number, O the buffer before and O' after.
use mathlib.Core.Path.{◌≡◌}
use mathlib.Core.List.{List}
use Prim.Native.Nat.{ℕ}
use lib.ListN.{length}
use Rattle.open_sheet.specs.Results.{Result}
use Rattle.spec_operations.proofs.TextAnswers.{gives_one, gives_some}
use Rattle.spec_print.specs.Printing.{printing, PrintsRule}

module _ (s : List ℕ) (r : ℕ) where
  pub prints_one : {O O' O'' : List ℕ} {a b : Result ℕ} → PrintsRule s r O O' a → PrintsRule s r O O'' b → (O' ≡ O'') × (a ≡ b)
  prints_one x y = gives_one x y

  pub prints_some : (O : List ℕ) → (O' : List ℕ) × (a : Result ℕ) × PrintsRule s r O O' a
  prints_some O = gives_some (printing s r (length O)) O
