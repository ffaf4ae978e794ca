-- The readings of an accepted text put into a table, from its notes or from the text. Assumes nothing.
use mathlib.Core.Path.{◌≡◌, sym, ◌∙◌, subst}
use mathlib.Core.List.{List}
use Prim.Native.Nat.{ℕ}
use Rattle.read_bytes.specs.Read.{Read}
use Rattle.read_bytes.specs.Read.Read.{got}
use Rattle.read_bytes.proofs.Answers.{not_both, same_value}
use Rattle.spec_tilco.specs.Inference.{Mark}
use Rattle.table_marks.specs.Puts.{Puts}
use Rattle.std.specs.Prelude.{Result}
use Rattle.spec_refusals.specs.Numbers.{Refusal}
use Rattle.read_readings.specs.TakeReadings.{ReadingsTaken}
use Rattle.read_readings.specs.TakeReadings.ReadingsTaken.{taken, kept}

module _ {R : Read (List Mark)} {n : ℕ} {T T' : List ℕ} {ms : List Mark} {q : ℕ} (e : R ≡ got ms q) where
  -- The marks of a text are one list.
  pub puts_these : {ns : List Mark} {p : ℕ} → R ≡ got ns p → Puts n ns T T' → Puts n ms T T'
  puts_these f x = subst (λ (l : List Mark). Puts n l T T') (same_value (sym f ∙ e)) x

  -- An accepted text is taken.
  pub taken_these : {o : Result (Unit {0}) Refusal} → ReadingsTaken R n T T' o → Puts n ms T T'
  taken_these (taken ns p f x) = puts_these f x
  taken_these (kept r f x) = absurd (not_both (sym e ∙ f))
