-- What reading a text finds (01, "Numbers of refusal").
-- Assumes nothing.
use Rattle.std.specs.Prelude.{ℕ, Result, Ok, Err}
use Rattle.spec_refusals.specs.declared.Refusal as told
use Rattle.spec_refusals.specs.Numbers.{fault_number, Refusal}

-- A value and the place after it, or a refusal's number and place.
pub data Read (A : Type 0) : Type 0 where
  got : A → ℕ → Read A
  refused : ℕ → ℕ → Read A

-- Go on with what was read, or hand the refusal on.
abbrev pub and_then : {A B : Type 0} → Read A → (A → ℕ → Read B) → Read B
and_then (got a q) k = k a q
and_then (refused n p) k = refused n p

-- What an answer says: what f says of its value, or the refusal's number, which n tells of what is at fault, and its place.
abbrev pub said_by : {F V A : Type 0} → (F → ℕ) → (V → Read A) → Result V (told.Refusal F) → Read A
said_by n f (Ok v) = f v
said_by n f (Err r) = refused (n r.fault) r.place

-- The same, of a refusal that tells a kind of fault.
abbrev pub said : {V A : Type 0} → (V → Read A) → Result V Refusal → Read A
said = said_by fault_number
