-- `put_mark` meets its contract. Assumes nothing.
use native.Mathlib.Omega.{arith}
use Rattle.table_marks.proofs.Marks.{puts_made}
use Rattle.table_marks.proofs.put_mark.Goals as goal

pub returns : goal.returns
returns c =
    puts_made _ _ _ _ c.args.value c.requires.0 _ c.place_of-i.ensures.0 (omega (arith, c.requires.1, c.place_of-i.ensures.1))
