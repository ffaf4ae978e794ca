-- What ask answers of a table that does not clash, by its marks; its signs are the rows' signs.
-- Assumes nothing. T is the table, of n words for each row and value.
use mathlib.Core.Path.{◌≡◌, refl, sym, ◌∙◌}
use mathlib.Core.Bool.{Bool, true, false, true≢false}
use mathlib.Core.List.{List}
use Prim.Native.Nat.{ℕ, ◌*◌, ◌<◌}
use borrow.Author.Tests.{eq-eqb, eqb-true}
use Rattle.read_bytes.specs.Bytes.{byte, pick}
use Rattle.spec_tilco.specs.Inference.{mark, Clash}
use Rattle.spec_tilco.specs.Table.{Stands, Answer, Unsettled, True, False, Asked}
use Rattle.spec_tilco.specs.Table.Asked.{holds, fails, neither}
use Rattle.spec_dump.specs.TableSigns.{answer_sign}
use Rattle.dump_changes.specs.WordSigns.{has_mark, row_sign}

-- The answer where these tell of the true and of the false mark.
abbrev answer_of : Bool → Bool → Answer
answer_of y z = pick y (λ _. True) (pick z (λ _. False) Unsettled)

abbrev pub row_answer : ℕ → List ℕ → ℕ → ℕ → Answer
row_answer n T x t = answer_of (has_mark n T x t true) (has_mark n T x t false)

sign_of : (y z : Bool) → answer_sign (answer_of y z) ≡ pick y (λ _. byte "1") (pick z (λ _. byte "0") (byte "x"))
sign_of true z = refl
sign_of false true = refl
sign_of false false = refl

module _ (n : ℕ) (T : List ℕ) (x t : ℕ) where
  pub answer_sign_lem : answer_sign (row_answer n T x t) ≡ row_sign n T x t
  unfolding row_sign
  answer_sign_lem = sign_of (has_mark n T x t true) (has_mark n T x t false)

  stands : (v : Bool) → t < n * 64 → has_mark n T x t v ≡ true → Stands n T (mark x t v)
  unfolding has_mark
  stands v l e = record { within = l; set_at = eqb-true _ 1 e }

  stands_not : (v : Bool) → has_mark n T x t v ≡ false → Stands n T (mark x t v) → ⊥
  unfolding has_mark
  stands_not v e s = true≢false (sym (eq-eqb _ 1 s.set_at) ∙ e)

  pub row_asked : t < n * 64 → (Clash (Stands n T) → ⊥) → Asked (Stands n T) x t (row_answer n T x t)
  row_asked l c = by (has_mark n T x t true) (has_mark n T x t false) refl refl
    where
      by : (y z : Bool) → has_mark n T x t true ≡ y → has_mark n T x t false ≡ z → Asked (Stands n T) x t (answer_of y z)
      by true z e f = holds c (stands true l e)
      by false true e f = fails c (stands false l f)
      by false false e f = neither c (stands_not true e) (stands_not false f)
