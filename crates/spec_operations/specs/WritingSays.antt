-- What an operation that writes a text answers: the text's length, or a refusal's number and place (01, "Numbers of refusal").
-- Assumes nothing.
use Rattle.std.specs.Prelude.{ℕ, Result as Answer}
use Rattle.spec_refusals.specs.Numbers.{Refusal}
use Rattle.open_sheet.specs.Results.{Result, answer_says}

-- What the answer says.
abbrev pub writing_says : Answer ℕ Refusal → Result ℕ
writing_says = answer_says (λ n. n)
