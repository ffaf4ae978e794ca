-- What each value that a cell may have says. Assumes nothing.
use Rattle.spec_tilco.specs.Table.{Answer}
use Rattle.spec_tilco.specs.Table as tilco
use Rattle.table_marks.specs.declared.Value.{Value}
use Rattle.table_marks.specs.declared.Value.TheVariants as value

-- Each case as ask's answer.
abbrev pub value_says : Value → Answer
value_says value.Unsettled = tilco.Unsettled
value_says value.True = tilco.True
value_says value.False = tilco.False
value_says value.Contradiction = tilco.Contradiction
