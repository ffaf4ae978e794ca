-- `has_mark` meets its contract. Assumes nothing.
use Rattle.table_marks.proofs.Marks.{stands_made}
use Rattle.table_marks.proofs.has_mark.Goals as goal

pub returns : goal.returns
returns c =
    stands_made _ _ _ _ c.args.value c.requires.0 _ c.place_of-i.ensures.0
