-- What check answers: a row count, or a refusal's number and place (01, "Numbers of refusal").
-- Assumes nothing.
use Rattle.std.specs.Prelude.{ℕ, Result as Answer}
use Rattle.spec_refusals.specs.Numbers.{Refusal}
use Rattle.open_sheet.specs.Results.{Result, answer_says}

-- What check's answer says.
abbrev pub checking_says : Answer ℕ Refusal → Result ℕ
checking_says = answer_says (λ n. n)
