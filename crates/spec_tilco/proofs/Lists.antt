-- Laws of the four ways to go through a list, and of rules in another order.
-- Assumes nothing.
use mathlib.Core.Path.{◌≡◌, refl, sym, ◌∙◌, ap, ap₂, subst}
use mathlib.Core.List.Memᴰ
use mathlib.Core.List.{List, [], ◌∷◌, ◌++◌, append_assoc, Memᴰ, Permᴰ}
use mathlib.Core.Logic.{◌⊎◌, inl, inr}
use Prim.Native.Nat.{ℕ, zero, suc, ◌+◌, ◌<◌, ◌≤◌}
use native.Mathlib.Omega.{arith}
use lib.ListN.{length, get_or, take, replicate, length-append}
use Rattle.spec_tilco.specs.Lists.{All, total, tab, laid}

module _ {A : Type 0} (P : A → Type 0) where
  pub all_append : (xs ys : List A) → All P xs → All P ys → All P (xs ++ ys)
  all_append [] ys p q = q
  all_append (x ∷ xs) ys p q = (p.0, all_append xs ys p.1 q)

  pub all_left : (xs ys : List A) → All P (xs ++ ys) → All P xs
  all_left [] ys a = tt
  all_left (x ∷ xs) ys a = (a.0, all_left xs ys a.1)

  pub all_right : (xs ys : List A) → All P (xs ++ ys) → All P ys
  all_right [] ys a = a
  all_right (x ∷ xs) ys a = all_right xs ys a.1

  pub all_of_lem : (xs : List A) → ((x : A) → Memᴰ x xs → P x) → All P xs
  all_of_lem [] f = tt
  all_of_lem (x ∷ xs) f = (f x (Memᴰ.head refl), all_of_lem xs (λ y i. f y (Memᴰ.tail i)))

  pub all_at : (xs : List A) → All P xs → (x : A) → Memᴰ x xs → P x
  all_at [] p x i = absurd (Memᴰ.not-nil i)
  all_at (y ∷ ys) p x i = go (Memᴰ.cases_cons i) (all_at ys p.1 x)
    where
      go : (x ≡ y) ⊎ Memᴰ x ys → (Memᴰ x ys → P x) → P x
      go (inl e) f = subst P (sym e) p.0
      go (inr j) f = f j

  -- the i-th entry
  pub all_nth : (d : A) (xs : List A) (i : ℕ) → All P xs → i < length xs → P (get_or xs i d)
  all_nth d [] i p h = absurd (omega arith)
  all_nth d (x ∷ xs) zero p h = p.0
  all_nth d (x ∷ xs) (suc i) p h = all_nth d xs i p.1 (omega arith)

pub all_weaker : {A : Type 0} (P Q : A → Type 0) → ((x : A) → P x → Q x) → (xs : List A) → All P xs → All Q xs
all_weaker P Q g [] p = tt
all_weaker P Q g (x ∷ xs) p = (g x p.0, all_weaker P Q g xs p.1)

-- The first of equal entries.
pub take_equal : {A : Type 0} (x : A) (n m : ℕ) → n ≤ m → take n (replicate m x) ≡ replicate n x
take_equal x zero m h = refl
take_equal x (suc n) zero h = absurd (omega arith)
take_equal x (suc n) (suc m) h = ap (λ l. x ∷ l) (take_equal x n m (omega arith))

pub total_append : {A : Type 0} (f : A → ℕ) (xs ys : List A) → total f (xs ++ ys) ≡ total f xs + total f ys
total_append f [] ys = omega arith
total_append f (x ∷ xs) ys = omega (arith, total_append f xs ys)

pub length_tab : {A : Type 0} (f : ℕ → A) (n : ℕ) → length (tab f n) ≡ n
length_tab f zero = refl
length_tab f (suc n) = ap suc (length_tab (λ k. f (suc k)) n)

module _ {A B : Type 0} (size : A → ℕ) (f : A → ℕ → List B) where
  pub laid_append : (xs ys : List A) (b c : ℕ) → c ≡ b + total size xs → laid size f (xs ++ ys) b ≡ laid size f xs b ++ laid size f ys c
  laid_append [] ys b c e = let z : b ≡ c = omega arith in ap (laid size f ys) z
  laid_append (x ∷ xs) ys b c e =
      ap (λ (l : List B). f x b ++ l) (laid_append xs ys (b + size x) c (omega arith)) ∙ sym (append_assoc (f x b) (laid size f xs (b + size x)) (laid size f ys c))

  pub length_laid : ((x : A) (b : ℕ) → length (f x b) ≡ size x) → (xs : List A) (b : ℕ) → length (laid size f xs b) ≡ total size xs
  length_laid g [] b = refl
  length_laid g (x ∷ xs) b = length-append (f x b) (laid size f xs (b + size x)) ∙ ap₂ (λ (m n : ℕ). m + n) (g x b) (length_laid g xs (b + size x))

-- ---- lists in another order

module _ {A : Type 0} where
  pub found_again : {x : A} {xs ys : List A} → Permᴰ xs ys → Memᴰ x xs → Memᴰ x ys
  found_again Permᴰ.nil i = i
  found_again {x} (Permᴰ.cons {a} {b} {l₁} {l₂} e p) i = go (Memᴰ.cases_cons i) (found_again p)
    where
      go : (x ≡ a) ⊎ Memᴰ x l₁ → (Memᴰ x l₁ → Memᴰ x l₂) → Memᴰ x (b ∷ l₂)
      go (inl d) f = Memᴰ.head (d ∙ e)
      go (inr j) f = Memᴰ.tail (f j)
  found_again {x} (Permᴰ.swap {a} {b} {a'} {b'} {l} e e') i = first (Memᴰ.cases_cons i)
    where
      second : (x ≡ b) ⊎ Memᴰ x l → Memᴰ x (a' ∷ b' ∷ l)
      second (inl d) = Memᴰ.head (d ∙ e')
      second (inr j) = Memᴰ.tail (Memᴰ.tail j)

      first : (x ≡ a) ⊎ Memᴰ x (b ∷ l) → Memᴰ x (a' ∷ b' ∷ l)
      first (inl d) = Memᴰ.tail (Memᴰ.head (d ∙ e))
      first (inr j) = second (Memᴰ.cases_cons j)
  found_again (Permᴰ.trans p q) i = found_again q (found_again p i)

  pub total_stays : (f : A → ℕ) {xs ys : List A} → Permᴰ xs ys → total f xs ≡ total f ys
  total_stays f Permᴰ.nil = refl
  total_stays f (Permᴰ.cons e p) = ap₂ (λ (x : A) (k : ℕ). f x + k) e (total_stays f p)
  total_stays f (Permᴰ.swap {l = l} e e') = omega (arith, ap f e, ap f e')
  total_stays f (Permᴰ.trans p q) = total_stays f p ∙ total_stays f q

-- the same entries: whatever holds of each of one list holds of each of the other
pub all_stays : {A : Type 0} (P : A → Type 0) {xs ys : List A} → Permᴰ ys xs → All P xs → All P ys
all_stays P {xs} {ys} p a = all_of_lem P ys (λ y i. all_at P xs a y (found_again p i))
