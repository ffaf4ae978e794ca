-- The rules that document 004 drops add marks: on one sheet the table has a mark that its final set does not lead to.
-- Assumes nothing.
use mathlib.Core.Path.{◌≡◌, refl, subst, subst⁻¹}
use mathlib.Core.Bool.{true, false}
use mathlib.Core.List.Memᴰ
use mathlib.Core.List.{List, [], ◌∷◌, Memᴰ}
use mathlib.Core.Logic.{inr, ⊎_elim}
use Prim.Native.Nat.{ℕ}
use native.Mathlib.Omega.{arith}
use Rattle.spec_tilco.specs.Formula.{And, Or, Written, Sheet}
use Rattle.spec_tilco.specs.Inference.{Node, signal, not_of, gate, look, node, Mark, mark, Marks, up_both, two, start}
use Rattle.spec_tilco.specs.Lowering.{program}
use Rattle.spec_tilco.specs.Table.{Standing, ReadMarks, Added}
use Rattle.spec_tilco.specs.Short.{Short, start as given, top, and_left, and_right, and_off_left, and_off_right, or_right, or_left, or_off, look_down, look_up, not_down, not_up}
use Rattle.spec_tilco.proofs.At.{at_get_d}

-- (a&b)|c in a window of one tick, with a and b true: row 3 is a&b and row 4 the top.
abbrev sheet : Sheet
sheet = record { window = 1; signals = 3; rules = Written.pair Or (Written.pair And (Written.name 0) (Written.name 1)) (Written.name 2) ∷ [] }

abbrev readings : List Mark
readings = mark 0 0 true ∷ mark 1 0 true ∷ []

-- The sheet has one And, at row 3, and no look or not-row.
abbrev Shape : ℕ → Node → Type 0
Shape r signal = Unit {0}
Shape r (not_of x) = ⊥
Shape r (gate true a b) = r ≡ 3
Shape r (gate false a b) = Unit {0}
Shape r (look k c) = ⊥

shape : (r : ℕ) (n : Node) → node (program sheet) r ≡ n → Shape r n
shape r n e = subst (Shape r) e (at_get_d Shape signal (λ k. tt) (program sheet).rows (tt, (tt, (tt, (refl, (tt, tt))))) r)

-- What the short set keeps to: no falseness, and nothing at row 3.
abbrev Kept : Marks
Kept (mark r t true) = r ≡ 3 → ⊥
Kept (mark r t false) = ⊥

reading_kept : (m : Mark) → ReadMarks readings m → Kept m
reading_kept m i = ⊎_elim (λ e. subst⁻¹ Kept e (λ z. absurd (omega arith))) (λ j. ⊎_elim (λ e. subst⁻¹ Kept e (λ z. absurd (omega arith))) (λ k. absurd (Memᴰ.not-nil k)) (Memᴰ.cases_cons j)) (Memᴰ.cases_cons i)

top_kept : (r : ℕ) → Memᴰ r (program sheet).tops → r ≡ 3 → ⊥
top_kept r i z = ⊎_elim (λ e. omega arith) (λ j. Memᴰ.not-nil j) (Memᴰ.cases_cons i)

short_kept : {m : Mark} → Short (program sheet) 1 (ReadMarks readings) m → Kept m
short_kept (given {m} s) = reading_kept m s
short_kept (top {r} i h) = top_kept r i
short_kept (and_left {r} {a} {b} e d) = λ z. short_kept d (shape r (gate true a b) e)
short_kept (and_right {r} {a} {b} e d) = λ z. short_kept d (shape r (gate true a b) e)
short_kept (and_off_left e d) = short_kept d
short_kept (and_off_right e d) = short_kept d
short_kept (or_right e d d') = λ z. short_kept d'
short_kept (or_left e d d') = λ z. short_kept d'
short_kept (or_off e d d') = short_kept d
short_kept (look_down {r} {c} {k} e z h l d) = λ y. shape r (look k c) e
short_kept (look_up e z h l d) = short_kept d
short_kept (not_down {r} {x} e d) = shape r (not_of x) e
short_kept (not_up {r} {x} e d) = shape r (not_of x) e

-- Every table that add makes has a&b true, and the short set does not lead to that.
pub not_dropped : (T U : List ℕ) → Added sheet T readings U → Standing sheet U (mark 3 0 true) × (Short (program sheet) 1 (ReadMarks readings) (mark 3 0 true) → ⊥)
not_dropped T U A = (
  (A.exactly (mark 3 0 true)).1 (two (up_both {r = 3} {a = 0} {b = 1} refl) (start (inr (Memᴰ.head refl))) (start (inr (Memᴰ.tail (Memᴰ.head refl))))),
  λ d. short_kept d refl,
)
