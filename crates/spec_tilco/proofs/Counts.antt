-- How many rows a rule comes to: how its hidden signals are numbered makes no difference, and E2 has changed no count.
-- Assumes nothing.
use mathlib.Core.Path.{◌≡◌, refl, ◌∙◌, ap}
use mathlib.Core.Bool.{Bool, true, false, not}
use mathlib.Core.List.{List, [], ◌∷◌, ◌++◌, map-append}
use Prim.Native.Nat.{ℕ, suc, ◌+◌}
use native.Mathlib.Omega.{arith}
use Rattle.spec_tilco.specs.Lists.{total, laid}
use Rattle.spec_tilco.specs.Formula.{Op, And, Or, Implies, Iff, Written, Formula, hiddens, over_signals, defining, definings_by, spelled, Sheet, signal_rows}
use Rattle.spec_tilco.specs.Lowering.{BTL, lit, paired, lowered, size, lows, row_count_lem}
use Rattle.spec_tilco.specs.Former.{former_defining, former_formulas, former_row_count}
use Rattle.spec_tilco.proofs.Lists.{total_append}
use Rattle.spec_tilco.proofs.Order.{rows_counted, row_count}

-- A rule's rows, with those of its defining rules.
abbrev pub weight : Written → ℕ
weight w = total size (lows (spelled w 0))

-- ---- formulas

paired_size : (o : Op) (s : Bool) (f g f' g' : Bool → BTL) → ((z : Bool) → size (f z) ≡ size (f' z)) → ((z : Bool) → size (g z) ≡ size (g' z)) → size (paired o s f g) ≡ size (paired o s f' g')
paired_size And s f g f' g' p q = omega (arith, p s, q s)
paired_size Or s f g f' g' p q = omega (arith, p s, q s)
paired_size Implies s f g f' g' p q = omega (arith, p (not s), q s)
paired_size Iff s f g f' g' p q = omega (arith, p (not s), q s, q (not s), p s)

lit_size : (s : Bool) (x y : ℕ) → size (lit s x) ≡ size (lit s y)
lit_size true x y = refl
lit_size false x y = refl

plain_size : (x y : ℕ) (w : Written) (s : Bool) → size (lowered s (over_signals x w)) ≡ size (lowered s (over_signals y w))
plain_size x y (Written.name z) s = refl
plain_size x y (Written.neg f) s = plain_size x y f (not s)
plain_size x y (Written.pair o f g) s =
    paired_size o s (λ z. lowered z (over_signals x f)) (λ z. lowered z (over_signals (x + hiddens f) g)) (λ z. lowered z (over_signals y f)) (λ z. lowered z (over_signals (y + hiddens f) g))
    (plain_size x y f) (plain_size (x + hiddens f) (y + hiddens f) g)
plain_size x y (Written.time u lo n f) s = omega (arith, plain_size x y f s)
plain_size x y (Written.keep b f g) s = lit_size s x y

-- ---- defining rules

-- How a hidden signal is defined.
abbrev Defining : Type 0
Defining = Bool → ℕ → Formula → Formula → Formula

-- Two formulas have as many rows, in either sense.
abbrev SameSize : Formula → Formula → Type 0
SameSize f g = (z : Bool) → size (lowered z f) ≡ size (lowered z g)

-- Two ways to define have as many rows where the arguments have.
abbrev SameRows : Defining → Defining → Type 0
SameRows d e = (b : Bool) (x y : ℕ) (f f' g g' : Formula) → SameSize f f' → SameSize g g' → size (lowered true (d b x f g)) ≡ size (lowered true (e b y f' g'))

defining_size : SameRows defining defining
defining_size b x y f f' g g' p q = omega (arith, p true, p false, q true, q false)

former_size : SameRows former_defining defining
former_size b x y f f' g g' p q = omega (arith, p true, p false, q true, q false)

lows_size : (fs gs : List Formula) → total size (lows (fs ++ gs)) ≡ total size (lows fs) + total size (lows gs)
lows_size fs gs = ap (total size) (map-append (lowered true) fs gs) ∙ total_append size (lows fs) (lows gs)

module _ (d : Defining) (same : SameRows d defining) where
  definings_size : (x y : ℕ) (w : Written) → total size (lows (definings_by d x w)) ≡ total size (lows (definings_by defining y w))
  definings_size x y (Written.name z) = refl
  definings_size x y (Written.neg f) = definings_size x y f
  definings_size x y (Written.pair o f g) =
      omega (
        arith,
        lows_size (definings_by d x f) (definings_by d (x + hiddens f) g),
        lows_size (definings_by defining y f) (definings_by defining (y + hiddens f) g),
        definings_size x y f,
        definings_size (x + hiddens f) (y + hiddens f) g,
      )
  definings_size x y (Written.time u lo n f) = definings_size x y f
  definings_size x y (Written.keep b f g) =
      omega (
        arith,
        same b x y (over_signals (suc x) f) (over_signals (suc y) f) (over_signals (suc x + hiddens f) g) (over_signals (suc y + hiddens f) g) (plain_size (suc x) (suc y) f) (plain_size (suc x + hiddens f) (suc y + hiddens f) g),
        lows_size (definings_by d (suc x) f) (definings_by d (suc x + hiddens f) g),
        lows_size (definings_by defining (suc y) f) (definings_by defining (suc y + hiddens f) g),
        definings_size (suc x) (suc y) f,
        definings_size (suc x + hiddens f) (suc y + hiddens f) g,
      )

  -- A rule with its defining rules.
  abbrev spelled_by : Written → ℕ → List Formula
  spelled_by w x = over_signals x w ∷ definings_by d x w

  size_by : (x : ℕ) (w : Written) → total size (lows (spelled_by w x)) ≡ weight w
  size_by x w = omega (arith, plain_size x 0 w true, definings_size x 0 w)

  sizes_by : (x : ℕ) (ws : List Written) → total size (lows (laid hiddens spelled_by ws x)) ≡ total weight ws
  sizes_by x [] = refl
  sizes_by x (w ∷ ws) = omega (arith, lows_size (spelled_by w x) (laid hiddens spelled_by ws (x + hiddens w)), size_by x w, sizes_by (x + hiddens w) ws)

-- ---- rules and sheets

pub rule_size : (x : ℕ) (w : Written) → total size (lows (spelled w x)) ≡ weight w
rule_size = size_by defining defining_size

-- All that rules are lowered to, their hidden signals numbered from x.
abbrev pub lows_all : List Written → ℕ → List BTL
lows_all ws x = lows (laid hiddens spelled ws x)

pub rules_size : (x : ℕ) (ws : List Written) → total size (lows_all ws x) ≡ total weight ws
rules_size = sizes_by defining defining_size

-- "Row counts stay" (E2): every sheet has as many rows as with the former rule.
pub row_counts_stay : (s : Sheet) → row_count_lem s ≡ former_row_count s
row_counts_stay s =
    omega (
      arith,
      row_count s,
      rules_size s.signals s.rules,
      rows_counted (signal_rows s) (lows (former_formulas s)),
      sizes_by former_defining former_size s.signals s.rules,
    )
