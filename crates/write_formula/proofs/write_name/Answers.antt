-- `write_name` meets its contract. Assumes nothing.
use Rattle.write_bytes.proofs.Writing.{like, counted_like}
use Rattle.write_formula.proofs.Ranks.{name_spelled}
use Rattle.write_formula.proofs.write_name.Goals as goal

pub write_word-requires : goal.write_word-requires
write_word-requires c =
    counted_like c.requires.1 (name_spelled c.args.s.now c.args.names.now _ c.requires.0)

pub returns : goal.returns
returns c =
    like (name_spelled c.args.s.now c.args.names.now _ c.requires.0) c.write_word.ensures
