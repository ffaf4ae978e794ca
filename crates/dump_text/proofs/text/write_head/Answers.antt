-- `write_head` meets its contract. Assumes nothing.
use Rattle.write_bytes.proofs.Writing.{and_then_lem, counted_first, counted_rest}
use Rattle.spec_dump.specs.DumpTexts.{head_text}
use Rattle.dump_text.proofs.text.write_head.Goals as goal

pub push_text-requires : goal.push_text-requires
unfolding head_text
push_text-requires c =
    counted_first _ c.requires.1

pub push_text-requires-2 : goal.push_text-requires-2
unfolding head_text
push_text-requires-2 c =
    counted_first _ (counted_rest c.requires.1 c.push_text.ensures)

pub write_vars-requires : goal.write_vars-requires
unfolding head_text
write_vars-requires c =
    (c.requires.0, counted_first _ (counted_rest (counted_rest c.requires.1 c.push_text.ensures) c.push_text-2.ensures))

pub push_text-requires-3 : goal.push_text-requires-3
unfolding head_text
push_text-requires-3 c =
    counted_first _ (counted_rest (counted_rest (counted_rest c.requires.1 c.push_text.ensures) c.push_text-2.ensures) c.write_vars.ensures)

pub push_text-requires-4 : goal.push_text-requires-4
unfolding head_text
push_text-requires-4 c =
    counted_first _ (counted_rest (counted_rest (counted_rest (counted_rest c.requires.1 c.push_text.ensures) c.push_text-2.ensures) c.write_vars.ensures) c.push_text-3.ensures)

pub push_text-requires-5 : goal.push_text-requires-5
unfolding head_text
push_text-requires-5 c =
    counted_rest (counted_rest (counted_rest (counted_rest (counted_rest c.requires.1 c.push_text.ensures) c.push_text-2.ensures) c.write_vars.ensures) c.push_text-3.ensures) c.push_text-4.ensures

pub returns : goal.returns
unfolding head_text
returns c =
    and_then_lem c.push_text.ensures (and_then_lem c.push_text-2.ensures (and_then_lem c.write_vars.ensures (and_then_lem c.push_text-3.ensures (and_then_lem c.push_text-4.ensures c.push_text-5.ensures))))
