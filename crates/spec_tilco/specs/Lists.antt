-- Four ways to go through a list, which the other definitions share.
-- Assumes nothing.
use Rattle.std.specs.Prelude.{List, [], ◌∷◌, ◌++◌, ℕ, zero, suc, ◌+◌}

-- P holds of each entry.
abbrev pub All : {A : Type 0} → (A → Type 0) → List A → Type 0
All P [] = Unit {0}
All P (x ∷ xs) = P x × All P xs

-- What the entries come to, each by f.
abbrev pub total : {A : Type 0} → (A → ℕ) → List A → ℕ
total f [] = 0
total f (x ∷ xs) = f x + total f xs

-- f 0, f 1, .. f (n - 1).
abbrev pub tab : {A : Type 0} → (ℕ → A) → ℕ → List A
tab f zero = []
tab f (suc n) = f 0 ∷ tab (λ k. f (suc k)) n

-- What f makes of each entry, one after the other from place b on, where an entry takes up as many places as `size` says.
abbrev pub laid : {A B : Type 0} → (A → ℕ) → (A → ℕ → List B) → List A → ℕ → List B
laid size f [] b = []
laid size f (x ∷ xs) b = f x b ++ laid size f xs (b + size x)
