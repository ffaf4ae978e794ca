-- `name_to` meets its contract. Assumes nothing.
use mathlib.Core.Path.{sym, ◌∙◌}
use Rattle.read_names.proofs.EndPlaces.{digits_to, name_well, name_wrong}
use Rattle.read_names.proofs.name_to.Goals as goal

pub ends_well-requires : goal.ends_well-requires
ends_well-requires c = digits_to c.requires c.stem_end-i.ensures

pub end_number-n-requires : goal.end_number-n-requires
end_number-n-requires c =
    digits_to c.requires c.stem_end-i.ensures

pub returns-then-ends_well : goal.returns-then-ends_well
returns-then-ends_well c =
    name_well c.requires c.stem_end-i.ensures c.end_number-n.ensures (sym c.ends_well.ensures ∙ c.if-ends_well.true)

pub returns-else-ends_well : goal.returns-else-ends_well
returns-else-ends_well c =
    name_wrong c.requires c.stem_end-i.ensures (sym c.ends_well.ensures ∙ c.if-ends_well.false)
