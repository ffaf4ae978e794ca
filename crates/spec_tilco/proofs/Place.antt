-- Numbers cut into parts that follow one another from 0 on, each part moved as a whole.
-- Assumes nothing.
use mathlib.Core.Path.{◌≡◌, ◌∙◌, ap, subst}
use mathlib.Core.Bool.{Bool, true, false, not, cond}
use mathlib.Core.List.{List, [], ◌∷◌, ◌++◌}
use Prim.Native.Nat.{ℕ, ◌+◌, ◌-◌}
use native.Mathlib.Nat.{zero-add}
use native.Mathlib.Omega.{arith}
use lib.Dec.{T, ltb, lt→ltb, ltb→lt, not_T}
use Rattle.spec_tilco.specs.Lists.{total}
use Rattle.spec_tilco.proofs.Relocation.{Slides}

-- A part: where it goes and how long it is.
pub record Part : Type 0 where
  pub to : ℕ
  pub len : ℕ

abbrev pub place : List Part → ℕ → ℕ
place [] i = 0
place (g ∷ gs) i = cond (ltb i g.len) (g.to + i) (place gs (i - g.len))

cond_yes : (b : Bool) (x y : ℕ) → T b → cond b x y ≡ x
cond_yes true x y t = λ _. x
cond_yes false x y t = absurd t

cond_no : (b : Bool) (x y : ℕ) → T (not b) → cond b x y ≡ y
cond_no true x y t = absurd t
cond_no false x y t = λ _. y

-- From x on, f goes by these parts.
pub record Follows (f : ℕ → ℕ) (x : ℕ) (gs : List Part) : Type 0 where
  pub goes : (i : ℕ) → f (x + i) ≡ place gs i

pub from_zero : (gs : List Part) → Follows (place gs) 0 gs
from_zero gs = record { goes = λ i. ap (place gs) (zero-add i) }

pub here : {f : ℕ → ℕ} {x : ℕ} {g : Part} {gs : List Part} → Follows f x (g ∷ gs) → Slides f x g.to g.len
here {f} {x} {g} {gs} F i h = F.goes i ∙ cond_yes (ltb i g.len) (g.to + i) (place gs (i - g.len)) (lt→ltb i g.len h)

pub later : {f : ℕ → ℕ} {x : ℕ} {g : Part} {gs : List Part} → Follows f x (g ∷ gs) → Follows f (x + g.len) gs
later {f} {x} {g} {gs} F = record {
  goes = λ i.
      let same : x + g.len + i ≡ x + (g.len + i) = omega arith in
      let less : g.len + i - g.len ≡ i = omega arith in
      ap f same
      ∙ F.goes (g.len + i)
      ∙ cond_no (ltb (g.len + i) g.len) (g.to + (g.len + i)) (place gs (g.len + i - g.len)) (not_T (ltb (g.len + i) g.len) (λ t. let l = ltb→lt (g.len + i) g.len t in omega arith))
      ∙ ap (place gs) less;
}

pub past : (f : ℕ → ℕ) (x y : ℕ) (gs hs : List Part) → y ≡ x + total (λ g. g.len) gs → Follows f x (gs ++ hs) → Follows f y hs
past f x y [] hs e F = let same : x ≡ y = omega arith in subst (λ (z : ℕ). Follows f z hs) same F
past f x y (g ∷ gs) hs e F = past f (x + g.len) y gs hs (omega arith) (later F)
