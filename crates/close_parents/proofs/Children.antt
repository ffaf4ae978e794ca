-- What a row code says of its children by the kind in it. Assumes nothing.
use mathlib.Core.Path.{◌≡◌, refl, subst}
use mathlib.Core.List.{List}
use mathlib.Core.Logic.{◌⊎◌, ⊎_elim}
use Prim.Native.Nat.{ℕ, zero, suc, ◌≤◌, ◌<◌}
use native.Mathlib.Omega.{arith}
use Rattle.lower_rows.specs.RowCodes.{unpacked, row_at}
use Rattle.spec_tilco.specs.Inference.{Node, signal, not_of, gate, look}
use Rattle.close_rules.specs.Codes.{Fine, Coded, LooksAt}
use Rattle.close_rules.proofs.Decoding.{kind, left, right, look_kind, look_child}
use Rattle.close_parents.specs.Links.{Child}

-- A row's node is as codes say.
pub fine_row : (count : ℕ) (B : List ℕ) (r : ℕ) → Coded count B → Fine r (row_at B r)
fine_row count B r c = subst (Fine r) (c.codes.nodes r) (c.codes.fine r)

-- A row's children stand before it.
pub child_below : (d : Node) (r x : ℕ) → Fine r d → Child d x → x < r
child_below signal r x f h = absurd h
child_below (not_of y) r x f h = omega arith
child_below (gate u a b) r x f h = ⊎_elim (λ e. omega (arith, f.0)) (λ e. omega (arith, f.1)) h
child_below (look k c) r x f h = omega (arith, f.0)

-- ---- by the kind
first_below : (k a b r : ℕ) → (k ≡ 0 → ⊥) → Fine r (unpacked k a b) → a < r
first_below zero a b r f h = absurd (f refl)
first_below (suc zero) a b r f h = h.0
first_below (suc (suc zero)) a b r f h = h.0
first_below (suc (suc (suc zero))) a b r f h = h.0
first_below (suc (suc (suc (suc k)))) a b r f h = h

second_below : (k a b r : ℕ) → (k ≡ 0 → ⊥) → k ≤ 2 → Fine r (unpacked k a b) → b < r
second_below zero a b r f l h = absurd (f refl)
second_below (suc zero) a b r f l h = h.1
second_below (suc (suc zero)) a b r f l h = h.1
second_below (suc (suc (suc k))) a b r f l h = absurd (omega arith)

no_child : (k a b x : ℕ) → k ≡ 0 → Child (unpacked k a b) x → ⊥
no_child zero a b x e h = h
no_child (suc k) a b x e h = omega (arith, e)

one_child : (k a b x : ℕ) → 2 < k → Child (unpacked k a b) x → x ≡ a
one_child zero a b x l h = absurd h
one_child (suc zero) a b x l h = absurd (omega arith)
one_child (suc (suc zero)) a b x l h = absurd (omega arith)
one_child (suc (suc (suc zero))) a b x l h = h
one_child (suc (suc (suc (suc k)))) a b x l h = h

two_children : (k a b x : ℕ) → k ≤ 2 → Child (unpacked k a b) x → (x ≡ a) ⊎ (x ≡ b)
two_children zero a b x l h = absurd h
two_children (suc zero) a b x l h = h
two_children (suc (suc zero)) a b x l h = h
two_children (suc (suc (suc k))) a b x l h = absurd (omega arith)

-- ---- the same of a row code
module _ (count : ℕ) (B : List ℕ) (r : ℕ) where
  module _ (c : Coded count B) (some : kind count B r ≡ 0 → ⊥) where
    pub left_below : left count B r < r
    left_below = first_below (kind count B r) (left count B r) (right count B r) r some (fine_row count B r c)

    pub right_below : kind count B r ≤ 2 → right count B r < r
    right_below l = second_below (kind count B r) (left count B r) (right count B r) r some l (fine_row count B r c)

  -- A look's child, told by the start of the look's word.
  pub look_below : (c : ℕ) → LooksAt B r c → Coded count B → c < r
  look_below c e k = omega (arith, look_child count B r c e, left_below k (λ z. omega (arith, z, look_kind count B r c e)))

  pub row_no_child : kind count B r ≡ 0 → (x : ℕ) → Child (row_at B r) x → ⊥
  row_no_child e x h = no_child (kind count B r) (left count B r) (right count B r) x e h

  pub row_one_child : 2 < kind count B r → (x : ℕ) → Child (row_at B r) x → x ≡ left count B r
  row_one_child l x h = one_child (kind count B r) (left count B r) (right count B r) x l h

  pub row_two_children : kind count B r ≤ 2 → (x : ℕ) → Child (row_at B r) x → (x ≡ left count B r) ⊎ (x ≡ right count B r)
  row_two_children l x h = two_children (kind count B r) (left count B r) (right count B r) x l h
