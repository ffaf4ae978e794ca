-- What a closing has to show of its last table: it has the start, it is settled at each row, and nothing in it came from elsewhere.
-- Assumes nothing.
use mathlib.Core.Path.{◌≡◌, sym, subst}
use mathlib.Core.Bool.{Bool, true, not}
use mathlib.Core.List.{Memᴰ}
use mathlib.Core.Logic.{◌↔◌}
use Prim.Native.Nat.{ℕ, ◌<◌}
use native.Mathlib.Decide.{dec_lt}
use native.Mathlib.Omega.{arith}
use lib.ListN.{length, get_or-eq_default}
use Rattle.spec_tilco.specs.Inference.{Node, signal, not_of, gate, look, Program, node, Mark, mark, Marks, Shifted, One, down_left, down_right, up_left, up_right, look_down, look_up, not_down, not_up, Two, up_both, rest_right, rest_left, Derives, start, top, one, two, GateSettled}

-- The rules add nothing at row r, by its node.
abbrev pub SettledAt : ℕ → Marks → ℕ → Node → Type 0
SettledAt W T r signal = Unit {0}
SettledAt W T r (not_of x) = (t : ℕ) (v : Bool) → (T (mark r t v) → T (mark x t (not v))) × (T (mark x t v) → T (mark r t (not v)))
SettledAt W T r (gate u a b) = (t : ℕ) → GateSettled T u r a b t
SettledAt W T r (look k c) = (t s : ℕ) (v : Bool) → Shifted t k s → t < W → s < W → (T (mark r t v) → T (mark c s v)) × (T (mark c s v) → T (mark r t v))

module _ (P : Program) (W : ℕ) (T : Marks) where
  module _ (settled : (r : ℕ) → SettledAt W T r (node P r)) where
    at_row : (r : ℕ) {n : Node} → node P r ≡ n → SettledAt W T r n
    at_row r e = subst (SettledAt W T r) e (settled r)

    one_settled : {p m : Mark} → One P W p m → T p → T m
    one_settled (down_left {r} {t = t} e) i = (at_row r e t).down_left i
    one_settled (down_right {r} {t = t} e) i = (at_row r e t).down_right i
    one_settled (up_left {r} {t = t} e) i = (at_row r e t).up_left i
    one_settled (up_right {r} {t = t} e) i = (at_row r e t).up_right i
    one_settled (look_down {r} {t = t} {s = s} {v = v} e z h k) i = (at_row r e t s v z h k).0 i
    one_settled (look_up {r} {t = t} {s = s} {v = v} e z h k) i = (at_row r e t s v z h k).1 i
    one_settled (not_down {r} {t = t} {v = v} e) i = (at_row r e t v).0 i
    one_settled (not_up {r} {t = t} {v = v} e) i = (at_row r e t v).1 i

    two_settled : {p q m : Mark} → Two P p q m → T p → T q → T m
    two_settled (up_both {r} {t = t} e) i j = (at_row r e t).up_both i j
    two_settled (rest_right {r} {t = t} e) i j = (at_row r e t).rest_right i j
    two_settled (rest_left {r} {t = t} e) i j = (at_row r e t).rest_left i j

    -- What is derived is in every set of marks that has the start and the tops and is settled at each row.
    pub least : {S : Marks} → ((m : Mark) → S m → T m) → ((r : ℕ) → Memᴰ r P.tops → (t : ℕ) → t < W → T (mark r t true))
        → {m : Mark} → Derives P W S m → T m
    least f g (start {m} s) = f m s
    least f g (top {r} {t} i h) = g r i t h
    least f g (one r d) = one_settled r (least f g d)
    least f g (two r d e) = two_settled r (least f g d) (least f g e)

  -- past the last row there is nothing to settle
  every_settled : ((r : ℕ) → r < length P.rows → SettledAt W T r (node P r)) → (r : ℕ) → SettledAt W T r (node P r)
  every_settled f r = go (dec_lt r (length P.rows))
    where
      go : Dec (r < length P.rows) → SettledAt W T r (node P r)
      go (yes h) = f r h
      go (no h) = let e : node P r ≡ signal = get_or-eq_default P.rows signal (omega arith) in subst (SettledAt W T r) (sym e) tt

  -- Finished: T holds exactly what the rules lead to from S.
  pub finished : (S : Marks) → ((m : Mark) → T m → Derives P W S m) → ((m : Mark) → S m → T m)
      → ((r : ℕ) → Memᴰ r P.tops → (t : ℕ) → t < W → T (mark r t true))
      → ((r : ℕ) → r < length P.rows → SettledAt W T r (node P r))
      → (m : Mark) → T m ↔ Derives P W S m
  finished S only begun tops settled m = (only m, least (every_settled settled) begun tops)
