-- What add answers: what it gained, or a refusal's number and place (01, "Numbers of refusal").
-- Assumes nothing.
use Rattle.std.specs.Prelude.{Result as Answer}
use Rattle.spec_refusals.specs.Numbers.{Refusal}
use Rattle.open_sheet.specs.Results.{Result, answer_says}
use Rattle.spec_operations.specs.Gain.{Gain, gain}
use Rattle.op_add.specs.declared.Added.{Added}

-- What add's answer says.
abbrev pub adding_says : Answer Added Refusal → Result Gain
adding_says = answer_says (λ a. gain a.new a.clash)
