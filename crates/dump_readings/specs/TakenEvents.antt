-- A dump's events taken: what each answer says of the dump and of the buffer. Assumes nothing.
-- R is what the dump's events are read to, `names` are the declared names, W the window, m the buffer before and m' after.
use Rattle.std.specs.Prelude.{◌≡◌, List, ℕ, Result, Ok, Err}
use Rattle.spec_refusals.specs.Numbers.{fault_number, Refusal}
use Rattle.read_bytes.specs.Read.{Read}
use Rattle.read_bytes.specs.Read.Read.{got, refused}
use Rattle.write_bytes.specs.Writes.{Wrote}
use Rattle.spec_dump.specs.DumpTexts.{Event}
use Rattle.spec_dump.specs.Dumps.{readings_text}

-- The readings are written as far as there is room, and the place after them is answered; or the refusal.
pub data EventsTaken (R : Read (List Event)) (names : List (List ℕ)) (W : ℕ) (m m' : List ℕ) : Result ℕ Refusal → Type 0 where
  all_taken : {es : List Event} {q u : ℕ} → R ≡ got es q → Wrote (readings_text names W es) 0 m m' u → EventsTaken R names W m m' (Ok u)
  refused_at : {r : Refusal} → R ≡ refused (fault_number r.fault) r.place → EventsTaken R names W m m' (Err r)
