-- Signs and signals one after the other, and the sign of a cell.
-- Assumes nothing.
use mathlib.Core.Path.{◌≡◌, sym, ap, ◌∙◌}
use mathlib.Core.Bool.{Bool}
use mathlib.Core.List.{List, [], ◌∷◌, ◌++◌}
use Prim.Native.Nat.{ℕ, suc, ◌+◌, ◌-◌, ◌*◌, ◌<◌, ◌≤◌}
use native.Mathlib.Nat.{mul-le-mul_right}
use native.Mathlib.Numerals.{add-one}
use native.Mathlib.Omega.{arith}
use lib.ListN.{length, get_or, drop, drop_of_length-le}
use Rattle.read_bytes.proofs.Places.{drop_in}
use Rattle.spec_tilco.specs.Table.{Stands, Answer, Asked}
use Rattle.spec_tilco.proofs.Demand1.{asked_one}
use Rattle.table_marks.specs.Values.{value_says}
use Rattle.table_marks.specs.declared.Value.{Value}
use Rattle.write_bytes.specs.Writes.{Counted}
use Rattle.write_bytes.specs.declared.Writer.{Writer}
use Rattle.write_bytes.specs.Writers.{Writes}
use Rattle.write_bytes.proofs.Writing.{like, counted_like}
use Rattle.list_signals.specs.Signals.{Listable, sign_byte, signs, signal_text, signals_text}

-- A table that can be listed can be for fewer signals and a shorter window.
pub fewer : {k W n : ℕ} {T : List ℕ} {clash : Bool} (j U : ℕ) → j ≤ k → U ≤ W → Listable k W n T clash → Listable j U n T clash
fewer {k} {n = n} j U h l a =
    let m : 2 * j * n ≤ 2 * k * n = mul-le-mul_right n (omega arith) in
    record { rows = omega (arith, a.rows); ticks = omega (arith, a.ticks); clashes = a.clashes }

pub signs_start : (f : ℕ → Answer) (W : ℕ) → signs f 0 (W - 0) ≡ signs f 0 W
signs_start f W = let e : W - 0 ≡ W = omega arith in ap (signs f 0) e

module _ (f : ℕ → Answer) (t W : ℕ) where
  pub signs_next : t < W → signs f t (W - t) ≡ sign_byte (f t) ∷ signs f (t + 1) (W - (t + 1))
  unfolding signs
  signs_next h = let e : W - t ≡ suc (W - (t + 1)) = omega arith in rw (e, add-one)

  pub signs_end : W ≤ t → signs f t (W - t) ≡ []
  unfolding signs
  signs_end h = let e : W - t ≡ 0 = omega arith in rw e

-- The signals xs from the place i on, with these names.
module _ (names : List (List ℕ)) (xs : List ℕ) (W : ℕ) (f : ℕ → ℕ → Answer) (i : ℕ) where
  pub signals_next : i < length xs → signals_text W f names (drop i xs) ≡ signal_text (get_or names (get_or xs i 0) []) (signs (f (get_or xs i 0)) 0 W) ++ signals_text W f names (drop (i + 1) xs)
  unfolding signals_text
  signals_next h = rw (drop_in xs i 0 h)

  pub signals_end : length xs ≤ i → signals_text W f names (drop i xs) ≡ []
  unfolding signals_text
  signals_end h = rw (drop_of_length-le xs h)

-- What is written as a signal's name is its name.
module _ {v w : List ℕ} (e : v ≡ w) (marks : List ℕ) where
  pub named_counted : {b : ℕ} → Counted b (signal_text w marks) → Counted b (signal_text v marks)
  named_counted k = counted_like k (ap (λ z. signal_text z marks) (sym e))

  pub named_written : {t u : Writer} → Writes (signal_text v marks) t u → Writes (signal_text w marks) t u
  named_written h = like (ap (λ z. signal_text z marks) (sym e)) h

-- A sign written is the sign of the answer.
pub signed : {x y : ℕ} {t u : Writer} → x ≡ y → Writes (x ∷ []) t u → Writes (y ∷ []) t u
signed e h = like (ap (λ (z : ℕ). z ∷ []) (sym e)) h

-- The sign of a cell is that of the one answer allowed for it.
pub sign_is : {n : ℕ} {T : List ℕ} {x t : ℕ} {v : Value} → Asked (Stands n T) x t (value_says v) → (w : Value) → v ≡ w → (a : Answer) → Asked (Stands n T) x t a → sign_byte (value_says w) ≡ sign_byte a
sign_is {n} {T} {x} {t} h w e a i = ap sign_byte (ap value_says (sym e) ∙ asked_one (Stands n T) x t h i)
