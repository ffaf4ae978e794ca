-- A relation between the places, counted from b, and the entries of a list.
-- Assumes nothing.
use mathlib.Core.Path.{◌≡◌, sym, ◌∙◌, ap, subst}
use mathlib.Core.List.{List, [], ◌∷◌, ◌++◌}
use Prim.Native.Nat.{ℕ, zero, suc, ◌+◌, ◌<◌}
use native.Mathlib.Nat.{add-zero, zero-add, add-suc, suc-add, le_of_suc-le-suc, not-suc-le-zero}
use native.Mathlib.Omega.{arith}
use lib.ListN.{length, get_or, replicate}
use Rattle.spec_tilco.specs.Lists.{tab}
use Rattle.spec_tilco.proofs.Lists.{length_tab}

module _ {A : Type 0} (Q : ℕ → A → Type 0) where
  abbrev pub At : ℕ → List A → Type 0
  At b [] = Unit {0}
  At b (x ∷ xs) = Q b x × At (suc b) xs

  pub at_left : (b : ℕ) (xs ys : List A) → At b (xs ++ ys) → At b xs
  at_left b [] ys s = tt
  at_left b (x ∷ xs) ys s = (s.0, at_left (suc b) xs ys s.1)

  pub at_right : (b c : ℕ) (xs ys : List A) → c ≡ b + length xs → At b (xs ++ ys) → At c ys
  at_right b c [] ys e s = subst (λ (n : ℕ). At n ys) (sym (e ∙ add-zero b)) s
  at_right b c (x ∷ xs) ys e s = at_right (suc b) c xs ys (e ∙ add-suc b (length xs) ∙ sym (suc-add b (length xs))) s.1

  pub at_append : (b c : ℕ) (xs ys : List A) → c ≡ b + length xs → At b xs → At c ys → At b (xs ++ ys)
  at_append b c [] ys e s r = subst (λ (n : ℕ). At n ys) (e ∙ add-zero b) r
  at_append b c (x ∷ xs) ys e s r = (s.0, at_append (suc b) c xs ys (e ∙ add-suc b (length xs) ∙ sym (suc-add b (length xs))) s.1 r)

  pub tab_at : (f : ℕ → A) (b n : ℕ) → At b (tab f n) → (j : ℕ) → j < n → Q (b + j) (f j)
  tab_at f b zero s j h = absurd (not-suc-le-zero h)
  tab_at f b (suc n) s zero h = subst (λ (k : ℕ). Q k (f 0)) (sym (add-zero b)) s.0
  tab_at f b (suc n) s (suc j) h =
      subst (λ (k : ℕ). Q k (f (suc j))) (suc-add b j ∙ sym (add-suc b j)) (tab_at (λ k. f (suc k)) (suc b) n s.1 j (le_of_suc-le-suc h))

  pub at_tab : (f : ℕ → A) (b n : ℕ) → ((j : ℕ) → j < n → Q (b + j) (f j)) → At b (tab f n)
  at_tab f b zero g = tt
  at_tab f b (suc n) g = (
    subst (λ (k : ℕ). Q k (f 0)) (add-zero b) (g 0 (omega arith)),
    at_tab (λ k. f (suc k)) (suc b) n (λ j h. subst (λ (k : ℕ). Q k (f (suc j))) (add-suc b j ∙ sym (suc-add b j)) (g (suc j) (omega arith))),
  )

  pub at_replicate : (x : A) → ((n : ℕ) → Q n x) → (b n : ℕ) → At b (replicate n x)
  at_replicate x g b zero = tt
  at_replicate x g b (suc n) = (g b, at_replicate x g (suc b) n)

  -- a relation that holds of the default everywhere holds at each place of a list read with the default
  at_from : (d : A) → ((n : ℕ) → Q n d) → (b : ℕ) (xs : List A) → At b xs → (i : ℕ) → Q (b + i) (get_or xs i d)
  at_from d g b [] s i = g (b + i)
  at_from d g b (x ∷ xs) s zero = subst (λ (k : ℕ). Q k x) (sym (add-zero b)) s.0
  at_from d g b (x ∷ xs) s (suc i) =
      subst (λ (k : ℕ). Q k (get_or xs i d)) (suc-add b i ∙ sym (add-suc b i)) (at_from d g (suc b) xs s.1 i)

  pub at_get_d : (d : A) → ((n : ℕ) → Q n d) → (xs : List A) → At 0 xs → (i : ℕ) → Q i (get_or xs i d)
  at_get_d d g xs s i = subst (λ (k : ℕ). Q k (get_or xs i d)) (zero-add i) (at_from d g 0 xs s i)

  -- two lists and an entry, one after the other
  pub record Joined (b k l : ℕ) (xs ys : List A) (z : A) : Type 0 where
    pub left : At b xs
    pub right : At (b + k) ys
    pub last : Q (b + k + l) z

  pub at_joined : (b k l : ℕ) (xs ys : List A) (z : A) → length xs ≡ k → length ys ≡ l → At b (xs ++ (ys ++ (z ∷ []))) → Joined b k l xs ys z
  at_joined b k l xs ys z e e' s =
      let t : At (b + k) (ys ++ (z ∷ [])) = at_right b (b + k) xs (ys ++ (z ∷ [])) (omega arith) s in
      record { left = at_left b xs (ys ++ (z ∷ [])) s; right = at_left (b + k) ys (z ∷ []) t; last = (at_right (b + k) (b + k + l) ys (z ∷ []) (omega arith) t).0 }

  pub joined_at : (b k l : ℕ) (xs ys : List A) (z : A) → length xs ≡ k → length ys ≡ l → Joined b k l xs ys z → At b (xs ++ (ys ++ (z ∷ [])))
  joined_at b k l xs ys z e e' j =
      at_append b (b + k) xs (ys ++ (z ∷ [])) (omega arith) j.left (at_append (b + k) (b + k + l) ys (z ∷ []) (omega arith) j.right (j.last, tt))

  -- a list, n + 1 entries made by f, and n made by g
  pub record Timed (b k n : ℕ) (xs : List A) (f g : ℕ → A) : Type 0 where
    pub child : At b xs
    pub looks : (j : ℕ) → j < suc n → Q (b + k + j) (f j)
    pub ties : (j : ℕ) → j < n → Q (b + k + suc n + j) (g j)

  pub at_timed : (b k n : ℕ) (xs : List A) (f g : ℕ → A) → length xs ≡ k → At b (xs ++ (tab f (suc n) ++ tab g n)) → Timed b k n xs f g
  at_timed b k n xs f g e s =
      let t : At (b + k) (tab f (suc n) ++ tab g n) = at_right b (b + k) xs (tab f (suc n) ++ tab g n) (omega arith) s in
      record {
        child = at_left b xs (tab f (suc n) ++ tab g n) s;
        looks = tab_at f (b + k) (suc n) (at_left (b + k) (tab f (suc n)) (tab g n) t);
        ties = tab_at g (b + k + suc n) n (at_right (b + k) (b + k + suc n) (tab f (suc n)) (tab g n) (omega (arith, length_tab f (suc n))) t);
      }

  pub timed_at_lem : (b k n : ℕ) (xs : List A) (f g : ℕ → A) → length xs ≡ k → Timed b k n xs f g → At b (xs ++ (tab f (suc n) ++ tab g n))
  timed_at_lem b k n xs f g e t =
      at_append b (b + k) xs (tab f (suc n) ++ tab g n) (omega arith) t.child
      (at_append (b + k) (b + k + suc n) (tab f (suc n)) (tab g n) (omega (arith, length_tab f (suc n))) (at_tab f (b + k) (suc n) t.looks) (at_tab g (b + k + suc n) n t.ties))

-- each entry stands at its place of the list
pub at_self : {A : Type 0} (d : A) (T : ℕ → A) (b : ℕ) (xs : List A) → ((i : ℕ) → i < length xs → T (b + i) ≡ get_or xs i d) → At (λ n x. T n ≡ x) b xs
at_self d T b [] e = tt
at_self d T b (x ∷ xs) e = (
  ap T (sym (add-zero b)) ∙ e 0 (omega arith),
  at_self d T (suc b) xs (λ i h. ap T (suc-add b i ∙ sym (add-suc b i)) ∙ e (suc i) (omega arith)),
)
