-- `rule_text` meets its contract. Assumes nothing.
use borrow.Author.Rules.{rules}
use Rattle.write_bytes.proofs.Writing.{all_written, counted_start}
use Rattle.op_print.proofs.rule_text.Goals as goal

pub write_formula-requires : goal.write_formula-requires
write_formula-requires c =
    record { named_node = c.requires.named_node; counted = counted_start c.requires.counted c.new-w.ensures.start }

pub returns : goal.returns
returns c = all_written c.write_formula.ensures c.new-w.ensures.lent c.new-w.ensures.start (search rules) c.length.ensures
