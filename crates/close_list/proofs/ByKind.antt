-- What a row code says by the kind in it of the items of the row itself, and on which rows an item rests. Assumes nothing.
use mathlib.Core.Path.{◌≡◌, refl}
use mathlib.Core.List.{List}
use mathlib.Core.Logic.{◌⊎◌, inl, inr, ⊎_elim}
use Prim.Native.Nat.{ℕ, zero, suc, ◌+◌, ◌/◌, ◌≤◌}
use native.Mathlib.Omega.{arith}
use Rattle.lower_rows.specs.RowCodes.{unpacked, row_at}
use Rattle.spec_tilco.specs.Inference.{Node, signal, not_of, gate, look}
use Rattle.close_rules.specs.Codes.{Fine, Coded}
use Rattle.close_rules.specs.Settled.{Rests}
use Rattle.close_rules.proofs.Decoding.{kind, left, right}
use Rattle.close_list.specs.Items.{OwnItem}
use Rattle.close_parents.specs.Links.{Child}
use Rattle.close_parents.proofs.Children.{fine_row, child_below}

-- ---- by the kind
look_offset : (k a b r : ℕ) → k ≡ 3 → Fine r (unpacked k a b) → b ≤ 127
look_offset zero a b r e h = absurd (omega arith)
look_offset (suc zero) a b r e h = absurd (omega arith)
look_offset (suc (suc zero)) a b r e h = absurd (omega arith)
look_offset (suc (suc (suc zero))) a b r e h = h.2
look_offset (suc (suc (suc (suc k)))) a b r e h = absurd (omega arith)

own_none : (k a b p q : ℕ) → k ≡ 0 → OwnItem (unpacked k a b) p q → ⊥
own_none zero a b p q e h = h
own_none (suc k) a b p q e h = omega (arith, e)

own_look : (k a b p q : ℕ) → k ≡ 3 → OwnItem (unpacked k a b) p q → (q ≡ p + b / 64) ⊎ (q + 1 ≡ p + b / 64)
own_look zero a b p q e h = absurd h
own_look (suc zero) a b p q e h = absurd (omega arith)
own_look (suc (suc zero)) a b p q e h = absurd (omega arith)
own_look (suc (suc (suc zero))) a b p q e h = h
own_look (suc (suc (suc (suc k)))) a b p q e h = absurd (omega arith)

own_here : (k a b p q : ℕ) → (k ≡ 3 → ⊥) → OwnItem (unpacked k a b) p q → p ≡ q
own_here zero a b p q f h = absurd h
own_here (suc zero) a b p q f h = h
own_here (suc (suc zero)) a b p q f h = h
own_here (suc (suc (suc zero))) a b p q f h = absurd (f refl)
own_here (suc (suc (suc (suc k)))) a b p q f h = h

-- ---- the same of a row code
module _ (count : ℕ) (B : List ℕ) (r : ℕ) where
  pub offset_below : Coded count B → kind count B r ≡ 3 → right count B r ≤ 127
  offset_below c e = look_offset (kind count B r) (left count B r) (right count B r) r e (fine_row count B r c)

  pub row_own_none : kind count B r ≡ 0 → (p q : ℕ) → OwnItem (row_at B r) p q → ⊥
  row_own_none e p q h = own_none (kind count B r) (left count B r) (right count B r) p q e h

  pub row_own_look : kind count B r ≡ 3 → (p q : ℕ) → OwnItem (row_at B r) p q → (q ≡ p + right count B r / 64) ⊎ (q + 1 ≡ p + right count B r / 64)
  row_own_look e p q h = own_look (kind count B r) (left count B r) (right count B r) p q e h

  pub row_own_here : (kind count B r ≡ 3 → ⊥) → (p q : ℕ) → OwnItem (row_at B r) p q → p ≡ q
  row_own_here f p q h = own_here (kind count B r) (left count B r) (right count B r) p q f h

-- An item rests on words of the row itself and of its children.
pub rests_split : (d : Node) (r q x p : ℕ) → Rests d r q x p → (Child d x × (p ≡ q)) ⊎ ((x ≡ r) × OwnItem d p q)
rests_split signal r q x p h = absurd h
rests_split (not_of y) r q x p h = ⊎_elim (λ e. inr (e, h.0)) (λ e. inl (e, h.0)) h.1
rests_split (gate u a b) r q x p h = ⊎_elim (λ e. inr (e, h.0)) (λ e. inl (e, h.0)) h.1
rests_split (look k c) r q x p h = ⊎_elim (λ e. inl e) (λ e. inr e) h

-- A row's children stand before it, so an item rests on no row after its own.
pub rests_below : (count : ℕ) (B : List ℕ) (r q x p : ℕ) → Coded count B → Rests (row_at B r) r q x p → x ≤ r
rests_below count B r q x p c s =
    ⊎_elim (λ h. omega (arith, child_below (row_at B r) r x (fine_row count B r c) h.0)) (λ h. omega (arith, h.0)) (rests_split (row_at B r) r q x p s)
