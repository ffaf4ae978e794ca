-- A result: a value, or a refusal's number and place (01, "Numbers of refusal").
-- Assumes nothing.
use Rattle.std.specs.Prelude.{ℕ, Ok, Err, Result as Answer}
use Rattle.spec_refusals.specs.Numbers.{fault_number, Refusal}

-- A value, or a refusal's number and place.
pub data Result (A : Type 0) : Type 0 where
  accepted : A → Result A
  refused : ℕ → ℕ → Result A

-- What an operation's answer says: what f says of its value, or the refusal's number and place.
abbrev pub answer_says : {V A : Type 0} → (V → A) → Answer V Refusal → Result A
answer_says f (Ok v) = accepted (f v)
answer_says f (Err r) = refused (fault_number r.fault) r.place
