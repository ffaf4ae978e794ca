-- `ends_well` meets its contract. Assumes nothing.
use Rattle.read_names.proofs.EndPlaces.{well_few, well_many, well_first}
use Rattle.read_names.proofs.ends_well.Goals as goal

pub returns-then-many-lt2 : goal.returns-then-many-lt2
returns-then-many-lt2 c = well_few c.requires c.if-many-lt2.true

pub returns-then-many-gt4 : goal.returns-then-many-gt4
returns-then-many-gt4 c = well_many c.requires c.if-many-gt4.true

pub returns : goal.returns
returns c = well_first c.requires c.if-many-lt2.false c.if-many-gt4.false
