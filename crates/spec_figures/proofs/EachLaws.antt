-- Lists related entry by entry: what follows of a third list, the other way round, and beside an entry.
-- Assumes nothing.
use mathlib.Core.Path.{◌≡◌, refl, sym, ap₂, subst}
use mathlib.Core.List.Memᴰ
use mathlib.Core.List.{List, [], ◌∷◌, map, Memᴰ}
use mathlib.Core.Logic.{⊎_elim}
use Rattle.spec_tilco.specs.Lists.{All}
use Rattle.spec_figures.specs.Figures.{Each}

-- What two lists are to entries of which P holds, so that their own entries are related.
pub each_meet : {A B C : Type 0} (P : A → Type 0) (R : A → B → Type 0) (S : A → C → Type 0) (Q : B → C → Type 0)
    → ((x : A) (y : B) (z : C) → P x → R x y → S x z → Q y z) → (xs : List A) (ys : List B) (zs : List C) → All P xs → Each R xs ys → Each S xs zs → Each Q ys zs
each_meet P R S Q f [] [] [] p a b = tt
each_meet P R S Q f [] [] (z ∷ zs) p a b = absurd b
each_meet P R S Q f [] (y ∷ ys) zs p a b = absurd a
each_meet P R S Q f (x ∷ xs) [] zs p a b = absurd a
each_meet P R S Q f (x ∷ xs) (y ∷ ys) [] p a b = absurd b
each_meet P R S Q f (x ∷ xs) (y ∷ ys) (z ∷ zs) p a b = (f x y z p.0 a.0 b.0, each_meet P R S Q f xs ys zs p.1 a.1 b.1)

-- Each entry of which P holds has one to stand beside it.
pub each_some : {A B : Type 0} (P : A → Type 0) (R : A → B → Type 0) → ((x : A) → P x → (y : B) × R x y) → (xs : List A) → All P xs → (ys : List B) × Each R xs ys
each_some P R f [] p = ([], tt)
each_some P R f (x ∷ xs) p =
    let y = f x p.0 in
    let z = each_some P R f xs p.1 in
    (y.0 ∷ z.0, (y.1, z.1))

-- The other way round.
pub each_turned : {A B : Type 0} (R : A → B → Type 0) (S : B → A → Type 0) → ((x : A) (y : B) → R x y → S y x) → (xs : List A) (ys : List B) → Each R xs ys → Each S ys xs
each_turned R S f [] [] a = tt
each_turned R S f [] (y ∷ ys) a = absurd a
each_turned R S f (x ∷ xs) [] a = absurd a
each_turned R S f (x ∷ xs) (y ∷ ys) a = (f x y a.0, each_turned R S f xs ys a.1)

-- A weaker relation.
pub each_weaker : {A B : Type 0} (R S : A → B → Type 0) → ((x : A) (y : B) → R x y → S x y) → (xs : List A) (ys : List B) → Each R xs ys → Each S xs ys
each_weaker R S f [] [] a = tt
each_weaker R S f [] (y ∷ ys) a = absurd a
each_weaker R S f (x ∷ xs) [] a = absurd a
each_weaker R S f (x ∷ xs) (y ∷ ys) a = (f x y a.0, each_weaker R S f xs ys a.1)

-- What is made of the entries.
pub each_made : {A B C D : Type 0} (R : A → B → Type 0) (S : C → D → Type 0) (f : A → C) (g : B → D) → ((x : A) (y : B) → R x y → S (f x) (g y))
    → (xs : List A) (ys : List B) → Each R xs ys → Each S (map f xs) (map g ys)
each_made R S f g h [] [] a = tt
each_made R S f g h [] (y ∷ ys) a = absurd a
each_made R S f g h (x ∷ xs) [] a = absurd a
each_made R S f g h (x ∷ xs) (y ∷ ys) a = (h x y a.0, each_made R S f g h xs ys a.1)

-- Equal entry by entry.
pub each_equal : {A : Type 0} (xs ys : List A) → Each ◌≡◌ xs ys → xs ≡ ys
each_equal [] [] a = refl
each_equal [] (y ∷ ys) a = absurd a
each_equal (x ∷ xs) [] a = absurd a
each_equal (x ∷ xs) (y ∷ ys) a = ap₂ ◌∷◌ a.0 (each_equal xs ys a.1)

-- An entry has one beside it.
pub each_beside : {A B : Type 0} (R : A → B → Type 0) {x : A} (xs : List A) (ys : List B) → Each R xs ys → Memᴰ x xs → (y : B) × Memᴰ y ys × R x y
each_beside R [] ys a i = absurd (Memᴰ.not-nil i)
each_beside R (x ∷ xs) [] a i = absurd a
each_beside R (x ∷ xs) (y ∷ ys) a i =
    ⊎_elim (λ e. (y, Memᴰ.head refl, subst (λ z. R z y) (sym e) a.0)) (λ j. let z = each_beside R xs ys a.1 j in (z.0, Memᴰ.tail z.1, z.2)) (Memᴰ.cases_cons i)
