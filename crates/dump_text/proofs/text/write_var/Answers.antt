-- `write_var` meets its contract. Assumes nothing.
use Rattle.write_bytes.proofs.Writing.{and_then_lem, counted_first, counted_rest}
use Rattle.spec_dump.specs.DumpTexts.{var_key, var_text}
use Rattle.dump_text.proofs.text.write_var.Goals as goal

pub push_text-requires : goal.push_text-requires
unfolding var_text var_key
push_text-requires c =
    counted_first _ c.requires.1

pub push-requires : goal.push-requires
unfolding var_text var_key
push-requires c =
    counted_first _ (counted_rest c.requires.1 c.push_text.ensures)

pub push-requires-2 : goal.push-requires-2
unfolding var_text var_key
push-requires-2 c =
    counted_first _ (counted_rest (counted_rest c.requires.1 c.push_text.ensures) c.push.ensures)

pub write_word-requires : goal.write_word-requires
unfolding var_text var_key
write_word-requires c =
    counted_first _ (counted_rest (counted_rest (counted_rest c.requires.1 c.push_text.ensures) c.push.ensures) c.push-2.ensures)

pub push_text-requires-2 : goal.push_text-requires-2
unfolding var_text var_key
push_text-requires-2 c =
    counted_rest (counted_rest (counted_rest (counted_rest c.requires.1 c.push_text.ensures) c.push.ensures) c.push-2.ensures) c.write_word.ensures

pub returns : goal.returns
unfolding var_text var_key
returns c =
    and_then_lem c.push_text.ensures (and_then_lem c.push.ensures (and_then_lem c.push-2.ensures (and_then_lem c.write_word.ensures c.push_text-2.ensures)))
