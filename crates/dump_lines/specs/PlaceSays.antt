-- What a reader of lines answers that gives the place after them alone. Assumes nothing.
use Rattle.std.specs.Prelude.{ℕ, Result}
use Rattle.spec_refusals.specs.Numbers.{Refusal}
use Rattle.read_bytes.specs.Read.{Read, said}
use Rattle.read_bytes.specs.Read.Read.{got}

-- What the answer says, of lines that say the value v.
abbrev pub place_says : ℕ → Result ℕ Refusal → Read ℕ
place_says v = said (got v)
