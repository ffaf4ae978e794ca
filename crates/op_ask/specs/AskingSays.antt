-- What ask answers: a cell's value, or a refusal's number and place (01, "Numbers of refusal").
-- Assumes nothing.
use Rattle.std.specs.Prelude.{Result as Answer}
use Rattle.spec_tilco.specs.Table as table
use Rattle.table_marks.specs.declared.Value.{Value}
use Rattle.table_marks.specs.Values.{value_says}
use Rattle.spec_refusals.specs.Numbers.{Refusal}
use Rattle.open_sheet.specs.Results.{Result, answer_says}

-- What ask's answer says.
abbrev pub asking_says : Answer Value Refusal → Result table.Answer
asking_says = answer_says value_says
