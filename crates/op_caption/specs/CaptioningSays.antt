-- What caption_part answers: the part that is shown, or a refusal's number and place (01, "Numbers of refusal").
-- Assumes nothing.
use Rattle.std.specs.Prelude.{Result as Answer}
use Rattle.spec_refusals.specs.Numbers.{Refusal}
use Rattle.read_captions.specs.declared.Part.{Part}
use Rattle.open_sheet.specs.Results.{Result, answer_says}

-- What the answer says.
abbrev pub captioning_says : Answer Part Refusal → Result Part
captioning_says = answer_says (λ a. a)
