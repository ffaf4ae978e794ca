-- `write_number_line` meets its contract. Assumes nothing.
use Rattle.write_lines.proofs.Lines.{key_counted, value_counted, end_counted, line_written}
use Rattle.write_lines.proofs.write_number_line.Goals as goal

pub push_text-requires : goal.push_text-requires
push_text-requires c = key_counted _ c.requires

pub decimal-requires : goal.decimal-requires
decimal-requires c = value_counted c.requires c.push_text.ensures

pub push-requires : goal.push-requires
push-requires c = end_counted c.requires c.push_text.ensures c.decimal.ensures

pub returns : goal.returns
returns c = line_written c.push_text.ensures c.decimal.ensures c.push.ensures
