-- Histories, a formula's value in one, and what obeys a sheet (01, "Meaning"; 004, section 4).
-- Assumes nothing.
use Rattle.std.specs.Prelude.{◌≡◌, Bool, true, false, not, ◌&&◌, ◌||◌, ℕ, zero, suc, ◌+◌, ◌<◌, ℤ, pos, ◌+ℤ◌, ◌-ℤ◌}
use mathlib.Core.List.{Memᴰ}
use Rattle.spec_tilco.specs.Formula.{Op, And, Or, Implies, Iff, Formula, Sheet, formulas}

-- "A history gives each signal true or false at every whole-number tick, before and after the window too."
abbrev pub History : Type 0
History = ℕ → ℤ → Bool

-- The tick at the offset k, written with 64 added, from tick t.
abbrev pub at_offset : ℤ → ℕ → ℤ
at_offset t k = t +ℤ pos k -ℤ pos 64

-- And with true, or with false.
abbrev pub gate_of : Bool → Bool → Bool → Bool
gate_of true x y = x && y
gate_of false x y = x || y

-- p over the offsets lo, lo + 1, .. lo + n: at all of them with true, at one at least with false.
abbrev pub over_offsets : Bool → (ℕ → Bool) → ℕ → ℕ → Bool
over_offsets u p lo zero = p lo
over_offsets u p lo (suc n) = gate_of u (over_offsets u p lo n) (p (lo + suc n))

-- What a sign makes of its two sides' values.
abbrev pub op_of : Op → Bool → Bool → Bool
op_of And x y = x && y
op_of Or x y = x || y
op_of Implies x y = not x || y
op_of Iff x y = (not x || y) && (not y || x)

-- "f@i is true at t when f is true at t+x for every whole x in the interval; f?i for at least one."
abbrev pub value : History → Formula → ℤ → Bool
value h (Formula.sig x) t = h x t
value h (Formula.neg f) t = not (value h f t)
value h (Formula.pair o f g) t = op_of o (value h f t) (value h g t)
value h (Formula.time u lo n f) t = over_offsets u (λ k. value h f (at_offset t k)) lo n

-- "It obeys the sheet when each rule is true at each tick of the window": the defining rules too.
abbrev pub Obeys : Sheet → History → Type 0
Obeys s h = (f : Formula) → Memᴰ f (formulas s) → (t : ℕ) → t < s.window → value h f (pos t) ≡ true
