-- The second halves of P7 and P8: what their rules, as they are read, come to in a history.
-- Assumes nothing. v is a sheet as it is read, h a history.
use mathlib.Core.Path.{◌≡◌, refl, sym, subst}
use mathlib.Core.Bool.{Bool, true, false, not, ◌||◌}
use mathlib.Core.List.Memᴰ
use mathlib.Core.List.{List, [], ◌∷◌}
use native.Mathlib.Omega.{arith}
use lib.Dec.{T}
use lib.IntN.{pos}
use Rattle.read_bytes.specs.Bytes.{bytes}
use Rattle.spec_tilco.specs.Formula.{Or, Written, Sheet}
use Rattle.spec_tilco.specs.Meaning.{History, Obeys}
use Rattle.read_sheet.specs.Sheet.{Contents, meant}
use Rattle.open_sheet.specs.Results.{Result, accepted, refused}
use Rattle.open_sheet.specs.SheetIn.{sheet_in}
use Rattle.proof_cases.specs.Texts.{SaidOf, TextCase, p7, p8, InHistories}

-- What was read is the sheet v.
abbrev pub ReadAs : Sheet → Result Contents → Type 0
ReadAs v (accepted k) = meant k ≡ v
ReadAs v (refused n p) = ⊥

-- A sheet of one tick and two signals with these rules.
abbrev one_tick : List Written → Sheet
one_tick ws = record { window = 1; signals = 2; rules = ws }

abbrev either : Written → Written → Written
either = Written.pair Or

abbrev a : Written
a = Written.name 0

abbrev b : Written
b = Written.name 1

-- P7: a|b and a|!b.
abbrev pub p7_read : Sheet
p7_read = one_tick (either a b ∷ either a (Written.neg b) ∷ [])

-- P8: a|b, a|!b, !a|b and !a|!b.
abbrev pub p8_read : Sheet
p8_read = one_tick (either a b ∷ either a (Written.neg b) ∷ either (Written.neg a) b ∷ either (Written.neg a) (Written.neg b) ∷ [])

whichever : (x y : Bool) → (x || y) ≡ true → (x || not y) ≡ true → x ≡ true
whichever true y p q = refl
whichever false true p q = q
whichever false false p q = p

not_both : (x : Bool) → x ≡ true → not x ≡ true → ⊥
not_both true p q = subst T (sym q) tt
not_both false p q = subst T (sym p) tt

-- "A .. true in every history."
pub p7_holds : (h : History) → Obeys p7_read h → SaidOf p7.histories h
p7_holds h o = whichever (h 0 (pos 0)) (h 1 (pos 0)) (o _ (Memᴰ.head refl) 0 (omega arith)) (o _ (Memᴰ.tail (Memᴰ.head refl)) 0 (omega arith))

-- "No history exists."
pub p8_holds : (h : History) → Obeys p8_read h → SaidOf p8.histories h
p8_holds h o =
    not_both (h 0 (pos 0))
    (whichever (h 0 (pos 0)) (h 1 (pos 0)) (o _ (Memᴰ.head refl) 0 (omega arith)) (o _ (Memᴰ.tail (Memᴰ.head refl)) 0 (omega arith)))
    (whichever (not (h 0 (pos 0))) (h 1 (pos 0)) (o _ (Memᴰ.tail (Memᴰ.tail (Memᴰ.head refl))) 0 (omega arith))
    (o _ (Memᴰ.tail (Memᴰ.tail (Memᴰ.tail (Memᴰ.head refl)))) 0 (omega arith)))

-- Every history of a case is as said, if it is so for the sheet as it is read.
pub of_read : (e : TextCase) (v : Sheet) → ReadAs v (sheet_in (bytes e.sheet)) → ((h : History) → Obeys v h → SaidOf e.histories h) → InHistories e
of_read e v read holds k i h obeys = holds h (subst (λ (w : Sheet). Obeys w h) (subst (ReadAs v) i read) obeys)
