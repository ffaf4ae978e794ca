-- A number of refusal is of one kind of fault, so two refusals of one number at one place are one.
-- Assumes nothing.
use mathlib.Core.Path.{◌≡◌, sym, ap, ◌∙◌}
use Prim.Native.Nat.{ℕ, ◌-◌, ◌*◌, ◌/◌}
use native.Mathlib.Omega.{arith}
use borrow.Author.Rules.{rules}
use denote.Enum.Declared.{tag_of}
use denote.Enum.Bare.{tag_one}
use Rattle.spec_refusals.specs.declared.Fault.{Fault}
use Rattle.spec_refusals.specs.contracts.Fault.{the_type}
use Rattle.spec_refusals.specs.Numbers.{fault_number, Refusal}

-- Which kind a number is of, the first one being 0.
abbrev kind_of : ℕ → ℕ
kind_of n = n - 1 - 4 * (n / 29)

kind_is : (a : Fault) → tag_of the_type a ≡ kind_of (fault_number a)
kind_is a = grind (arith, rules)

same_fault : (a b : Fault) → fault_number a ≡ fault_number b → a ≡ b
same_fault a b e = tag_one the_type (search rules) a b (kind_is a ∙ ap kind_of e ∙ sym (kind_is b))

pub same_refusal : (a b : Refusal) → fault_number a.fault ≡ fault_number b.fault → a.place ≡ b.place → a ≡ b
same_refusal a b e f = ap (λ (x : Fault). at x a.place) (same_fault a.fault b.fault e) ∙ ap (at b.fault) f
  where
    at : Fault → ℕ → Refusal
    at x p = record { fault = x; place = p }
