-- A list that is written entry by entry from the front, as fill does: what it is after i entries, and that it ends as the table of what was written.
-- Assumes nothing.
use mathlib.Core.Path.{◌≡◌, refl, ◌∙◌, ap}
use mathlib.Core.List.{List, [], ◌∷◌}
use Prim.Native.Nat.{ℕ, zero, suc}
use lib.ListN.{length, set, length-set}
use Rattle.spec_tilco.specs.Lists.{tab}

-- xs with its first i entries written anew, each by f.
abbrev pub filled : {A : Type 0} → (ℕ → A) → ℕ → List A → List A
filled f zero xs = xs
filled f (suc i) xs = set (filled f i xs) i (f i)

pub length_filled : {A : Type 0} (f : ℕ → A) (i : ℕ) (xs : List A) → length (filled f i xs) ≡ length xs
length_filled f zero xs = refl
length_filled f (suc i) xs = length-set (filled f i xs) i (f i) ∙ length_filled f i xs

-- The first entry is written first, and the rest as a list of its own.
filled_rest : {A : Type 0} (f : ℕ → A) (i : ℕ) (x : A) (xs : List A) → filled f (suc i) (x ∷ xs) ≡ f 0 ∷ filled (λ k. f (suc k)) i xs
filled_rest f zero x xs = refl
filled_rest f (suc i) x xs = ap (λ ys. set ys (suc i) (f (suc i))) (filled_rest f i x xs)

pub filled_whole : {A : Type 0} (f : ℕ → A) (xs : List A) → filled f (length xs) xs ≡ tab f (length xs)
filled_whole f [] = refl
filled_whole f (x ∷ xs) = filled_rest f (length xs) x xs ∙ ap (λ ys. f 0 ∷ ys) (filled_whole (λ k. f (suc k)) xs)
