-- since and until in the words of document 004, section 2.1, over k ticks of a window (E2): what the defining rules are read back with.
-- Assumes nothing.
use Rattle.std.specs.Prelude.{◌≡◌, Bool, true, false, ◌&&◌, ◌||◌, ◌⊎◌, ℕ, suc, ◌+◌, ◌<◌, ◌≤◌, ℤ, pos, ◌+ℤ◌, ◌-ℤ◌}
use mathlib.Core.List.{Memᴰ}
use Rattle.spec_tilco.specs.Formula.{Formula, defining, Sheet, formulas}
use Rattle.spec_tilco.specs.Meaning.{History, value}

-- The k-th tick back from t for since (true), the k-th ahead for until (false). "Earlier" below is back or ahead alike.
abbrev pub away : Bool → ℤ → ℕ → ℤ
away true t k = t -ℤ pos k
away false t k = t +ℤ pos k

-- "A or (B and x)" at tick t, where x is the hidden signal.
abbrev pub a_or_bAnd_x : History → ℕ → Formula → Formula → ℤ → Bool
a_or_bAnd_x h x f g t = value h f t || (value h g t && h x t)

-- f at every one of the k earlier ticks.
abbrev pub AtEvery : Bool → History → Formula → ℤ → ℕ → Type 0
AtEvery b h f t k = (i : ℕ) → i < k → value h f (away b t (suc i)) ≡ true

-- "A at some earlier tick and B at every tick between", of which there are j.
abbrev pub AtSome : Bool → History → Formula → Formula → ℤ → ℕ → Type 0
AtSome b h f g t k = (j : ℕ) × (j < k) × (value h f (away b t (suc j)) ≡ true) × AtEvery b h g t j

-- "Or B at every earlier tick": at every one of the k, and the hidden signal x at the first.
abbrev pub AllAlong : Bool → History → ℕ → Formula → ℤ → ℕ → Type 0
AllAlong b h x g t k = AtEvery b h g t k × (h x (away b t k) ≡ true)

-- One of the two.
abbrev pub KeptOver : Bool → History → ℕ → Formula → Formula → ℤ → ℕ → Type 0
KeptOver b h x f g t k = AtSome b h f g t k ⊎ AllAlong b h x g t k

-- x is the hidden signal of a since (true) or an until (false) of the sheet, with the arguments f and g: it has this defining rule.
abbrev pub Hides : Sheet → Bool → ℕ → Formula → Formula → Type 0
Hides s b x f g = Memᴰ (defining b x f g) (formulas s)

-- Tick t and the k - 1 earlier ones are ticks of a window of w: there the defining rule is true.
abbrev pub Inside : Bool → ℕ → ℕ → ℕ → Type 0
Inside true w t k = (t < w) × (k ≤ suc t)
Inside false w t k = t + k ≤ w
