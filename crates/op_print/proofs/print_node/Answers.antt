-- `print_node` meets its contract. Assumes nothing.
use borrow.Author.Rules.{rules}
use native.Mathlib.Omega.{arith}
use mathlib.Core.Path.{refl}
use Rattle.write_bytes.proofs.Writing.{all_written, counted_start}
use Rattle.op_print.proofs.Rooms.{too_long, no_room, own_long, own_counted, copied}
use Rattle.op_print.proofs.print_node.Goals as goal

pub returns-then-length-gt-RULE_BYTES : goal.returns-then-length-gt-RULE_BYTES
returns-then-length-gt-RULE_BYTES c = too_long c.rule_text-length.ensures _ c.if-length-gt-RULE_BYTES.true

pub returns-then-out-length : goal.returns-then-out-length
returns-then-out-length c = no_room c.rule_text-length.ensures _ c.if-out-length.true

pub slice_bounds-push_text-end : goal.slice_bounds-push_text-end
slice_bounds-push_text-end c =
    own_long c.rule_text-length.ensures c.args.out.now (omega arith)

pub push_text-requires : goal.push_text-requires
push_text-requires c =
    counted_start (own_counted c.rule_text-length.ensures c.args.out.now (omega arith) (omega arith)) c.new-w.ensures.start

pub returns : goal.returns
returns c =
    copied c.rule_text-length.ensures _ (omega arith) (omega arith) (omega arith) (all_written c.push_text.ensures c.new-w.ensures.lent c.new-w.ensures.start (search rules) refl)
