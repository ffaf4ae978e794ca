-- `write_part` and the functions that it calls in a cycle meet their contracts. The measure is the size of the formula, then how far the call is from the next one that
-- goes to a child. Assumes nothing.
use mathlib.Core.Path.{refl, ◌∙◌}
use native.Mathlib.Omega.{arith}
use Rattle.read_arena.specs.NodeRules.{written_at}
use Rattle.write_bytes.proofs.Writing.{like, and_then_lem, counted_like, counted_first, counted_rest}
use Rattle.write_formula.proofs.Parts.{name_parts, deny_parts, pair_parts, time_parts, keep_parts}
use Rattle.write_formula.proofs.Nodes.{weight, weight_is, weight_of, named_parts, parts_of, part_of_lem, of_node}
use Rattle.write_formula.proofs.+write.Goals as goal

pub write_bare-write_name-requires : goal.write_bare-write_name-requires
write_bare-write_name-requires t c =
    (parts_of c.in-Name.is c.args.names.now c.args.arena.now c.requires.named_parts, counted_like c.requires.counted (of_node c.in-Name.is _ _ ∙ name_parts _ _))

pub write_bare-push-requires : goal.write_bare-push-requires
write_bare-push-requires t c =
    counted_first _ (counted_like c.requires.counted (of_node c.in-Deny.is _ _ ∙ deny_parts _ _ _ refl))

pub write_bare-write_part-requires : goal.write_bare-write_part-requires
unfolding weight
write_bare-write_part-requires t c =
    (omega (arith, weight_of c.in-Deny.is (written_at c.args.arena.now)), (parts_of c.in-Deny.is c.args.names.now c.args.arena.now c.requires.named_parts, counted_rest (counted_like c.requires.counted (of_node c.in-Deny.is _ _ ∙ deny_parts _ _ _ refl)) c.push.ensures))

pub write_bare-write_pair-requires : goal.write_bare-write_pair-requires
unfolding weight
write_bare-write_pair-requires t c =
    (omega (arith, weight_of c.in-Pair.is (written_at c.args.arena.now)), (parts_of c.in-Pair.is c.args.names.now c.args.arena.now c.requires.named_parts, counted_like c.requires.counted (of_node c.in-Pair.is _ _)))

pub write_bare-write_timed-requires : goal.write_bare-write_timed-requires
unfolding weight
write_bare-write_timed-requires t c =
    (omega (arith, weight_of c.in-Time.is (written_at c.args.arena.now)), (parts_of c.in-Time.is c.args.names.now c.args.arena.now c.requires.named_parts, counted_like c.requires.counted (of_node c.in-Time.is _ _)))

pub write_bare-write_keep-requires : goal.write_bare-write_keep-requires
unfolding weight
write_bare-write_keep-requires t c =
    (omega (arith, weight_of c.in-Keep.is (written_at c.args.arena.now)), (parts_of c.in-Keep.is c.args.names.now c.args.arena.now c.requires.named_parts, counted_like c.requires.counted (of_node c.in-Keep.is _ _)))

pub write_bare-returns-in-Name : goal.write_bare-returns-in-Name
write_bare-returns-in-Name t c =
    like (of_node c.in-Name.is _ _ ∙ name_parts _ _) c.write_name.ensures

pub write_bare-returns-in-Deny : goal.write_bare-returns-in-Deny
write_bare-returns-in-Deny t c =
    like (of_node c.in-Deny.is _ _ ∙ deny_parts _ _ _ refl) (and_then_lem c.push.ensures c.write_part.ensures)

pub write_bare-returns-in-Pair : goal.write_bare-returns-in-Pair
write_bare-returns-in-Pair t c =
    like (of_node c.in-Pair.is _ _) c.write_pair.ensures

pub write_bare-returns-in-Time : goal.write_bare-returns-in-Time
write_bare-returns-in-Time t c =
    like (of_node c.in-Time.is _ _) c.write_timed.ensures

pub write_bare-returns-in-Keep : goal.write_bare-returns-in-Keep
write_bare-returns-in-Keep t c =
    like (of_node c.in-Keep.is _ _) c.write_keep.ensures

pub write_keep-write_keep_word-requires : goal.write_keep-write_keep_word-requires
write_keep-write_keep_word-requires t c =
    counted_first _ (counted_like c.requires.counted (keep_parts _ _ _ _ _ _ refl refl))

pub write_keep-write_part-requires : goal.write_keep-write_part-requires
write_keep-write_part-requires t c =
    (omega arith, (c.requires.named_node.0, counted_first _ (counted_rest (counted_like c.requires.counted (keep_parts _ _ _ _ _ _ refl refl)) c.write_keep_word.ensures)))

pub write_keep-push-requires : goal.write_keep-push-requires
write_keep-push-requires t c =
    counted_first _ (counted_rest (counted_rest (counted_like c.requires.counted (keep_parts _ _ _ _ _ _ refl refl)) c.write_keep_word.ensures) c.write_part.ensures)

pub write_keep-write_part-requires-2 : goal.write_keep-write_part-requires-2
write_keep-write_part-requires-2 t c =
    (omega arith, (c.requires.named_node.1, counted_first _ (counted_rest (counted_rest (counted_rest (counted_like c.requires.counted (keep_parts _ _ _ _ _ _ refl refl)) c.write_keep_word.ensures) c.write_part.ensures) c.push.ensures)))

pub write_keep-push-requires-2 : goal.write_keep-push-requires-2
write_keep-push-requires-2 t c =
    counted_rest (counted_rest (counted_rest (counted_rest (counted_like c.requires.counted (keep_parts _ _ _ _ _ _ refl refl)) c.write_keep_word.ensures) c.write_part.ensures) c.push.ensures) c.write_part-2.ensures

pub write_keep-returns : goal.write_keep-returns
write_keep-returns t c =
    like (keep_parts _ _ _ _ _ _ refl refl) (and_then_lem c.write_keep_word.ensures (and_then_lem c.write_part.ensures (and_then_lem c.push.ensures (and_then_lem c.write_part-2.ensures c.push-2.ensures))))

pub write_pair-write_part-requires : goal.write_pair-write_part-requires
write_pair-write_part-requires t c =
    (omega arith, (c.requires.named_node.0, counted_first _ (counted_like c.requires.counted (pair_parts _ _ _ _ _ _ c.rank_before.ensures refl))))

pub write_pair-write_sign-requires : goal.write_pair-write_sign-requires
write_pair-write_sign-requires t c =
    counted_first _ (counted_rest (counted_like c.requires.counted (pair_parts _ _ _ _ _ _ c.rank_before.ensures refl)) c.write_part.ensures)

pub write_pair-write_part-requires-2 : goal.write_pair-write_part-requires-2
write_pair-write_part-requires-2 t c =
    (omega arith, (c.requires.named_node.1, counted_rest (counted_rest (counted_like c.requires.counted (pair_parts _ _ _ _ _ _ c.rank_before.ensures c.rank_below.ensures)) c.write_part.ensures) c.write_sign.ensures))

pub write_pair-returns : goal.write_pair-returns
write_pair-returns t c =
    like (pair_parts _ _ _ _ _ _ c.rank_before.ensures c.rank_below.ensures) (and_then_lem c.write_part.ensures (and_then_lem c.write_sign.ensures c.write_part-2.ensures))

pub write_part-node_at-k-requires : goal.write_part-node_at-k-requires
write_part-node_at-k-requires t c =
    omega (arith, c.requires.named_node.stands.inside)

pub write_part-write_paren-requires : goal.write_part-write_paren-requires
write_part-write_paren-requires t c =
    counted_first _ (counted_like c.requires.counted (part_of_lem c.requires.named_node c.node_at-k.ensures _ _ c.rank_of.ensures))

pub write_part-write_bare-requires : goal.write_part-write_bare-requires
write_part-write_bare-requires t c =
    (omega (arith, weight_is c.requires.named_node c.node_at-k.ensures), (named_parts c.requires.named_node c.node_at-k.ensures, counted_first _ (counted_rest (counted_like c.requires.counted (part_of_lem c.requires.named_node c.node_at-k.ensures _ _ c.rank_of.ensures)) c.write_paren.ensures)))

pub write_part-write_paren-requires-2 : goal.write_part-write_paren-requires-2
write_part-write_paren-requires-2 t c =
    counted_rest (counted_rest (counted_like c.requires.counted (part_of_lem c.requires.named_node c.node_at-k.ensures _ _ c.rank_of.ensures)) c.write_paren.ensures) c.write_bare.ensures

pub write_part-returns : goal.write_part-returns
write_part-returns t c =
    like (part_of_lem c.requires.named_node c.node_at-k.ensures _ _ c.rank_of.ensures) (and_then_lem c.write_paren.ensures (and_then_lem c.write_bare.ensures c.write_paren-2.ensures))

pub write_timed-write_part-requires : goal.write_timed-write_part-requires
write_timed-write_part-requires t c =
    (omega arith, (c.requires.named_node, counted_first _ (counted_like c.requires.counted (time_parts _ _ _ _ _ _ _ refl refl))))

pub write_timed-push-requires : goal.write_timed-push-requires
write_timed-push-requires t c =
    counted_first _ (counted_rest (counted_like c.requires.counted (time_parts _ _ _ _ _ _ _ refl c.time_sign.ensures)) c.write_part.ensures)

pub write_timed-write_interval-requires : goal.write_timed-write_interval-requires
write_timed-write_interval-requires t c =
    counted_rest (counted_rest (counted_like c.requires.counted (time_parts _ _ _ _ _ _ _ refl c.time_sign.ensures)) c.write_part.ensures) c.push.ensures

pub write_timed-returns : goal.write_timed-returns
write_timed-returns t c =
    like (time_parts _ _ _ _ _ _ _ refl c.time_sign.ensures) (and_then_lem c.write_part.ensures (and_then_lem c.push.ensures c.write_interval.ensures))
