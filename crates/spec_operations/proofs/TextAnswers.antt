-- An operation that writes a text has one outcome for every input, and two outcomes for one input coincide; the outcome of a refusal, and of a text.
-- Assumes nothing. R is the text that is to be written, or the refusal; O is the buffer before and O' after.
use mathlib.Core.Path.{◌≡◌, refl, sym, ap, ◌∙◌}
use mathlib.Core.List.{List, ◌++◌}
use Prim.Native.Nat.{ℕ}
use lib.ListN.{length, drop}
use Rattle.open_sheet.specs.Results.{Result, accepted, refused}
use Rattle.spec_operations.specs.TextAnswers.{length_of, left_of, Gives}

pub gives_one : {R : Result (List ℕ)} {O O' O'' : List ℕ} {a b : Result ℕ} → Gives R O O' a → Gives R O O'' b → (O' ≡ O'') × (a ≡ b)
gives_one x y = (x.leaves ∙ sym y.leaves, x.answer ∙ sym y.answer)

pub gives_some : (R : Result (List ℕ)) (O : List ℕ) → (O' : List ℕ) × (a : Result ℕ) × Gives R O O' a
gives_some R O = (left_of R O, length_of R, record { answer = refl; leaves = refl })

-- A refusal keeps the buffer, and a text that is accepted stands in it.
pub gives_refused : {R : Result (List ℕ)} {n p : ℕ} → R ≡ refused n p → (O : List ℕ) → Gives R O O (refused n p)
gives_refused e O = record { answer = sym (ap length_of e); leaves = sym (ap (λ x. left_of x O) e) }

pub gives_text : {R : Result (List ℕ)} {t : List ℕ} → R ≡ accepted t → (O : List ℕ) → {U : List ℕ} {u : ℕ} → u ≡ length t → U ≡ t ++ drop (length t) O → Gives R O U (accepted u)
gives_text e O l h = record { answer = ap accepted l ∙ sym (ap length_of e); leaves = h ∙ sym (ap (λ x. left_of x O) e) }
