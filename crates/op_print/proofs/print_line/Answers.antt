-- `print_line` meets its contract. Assumes nothing.
use native.Mathlib.Omega.{arith}
use lib.ListN.{length-take}
use Rattle.op_print.proofs.RuleAgain.{again_inside, again_ready, again_held, again_accepted}
use Rattle.op_print.proofs.Outcomes.{node_named, node_short, gives_rule}
use Rattle.op_print.proofs.print_line.Goals as goal

pub slice_bounds-formula-end : goal.slice_bounds-formula-end
slice_bounds-formula-end c =
    simp length-take (omega (arith, again_inside c.args.s.now c.args.names.now c.args.at c.requires c.line_end-e.ensures))

pub formula-requires : goal.formula-requires
formula-requires c =
    again_ready c.args.s.now c.args.names.now c.args.at c.requires c.line_end-e.ensures _ (omega arith)

pub returns-in_err-part : goal.returns-in_err-part
returns-in_err-part c =
    absurd (again_accepted c.args.s.now c.args.names.now c.args.at c.requires c.line_end-e.ensures c.in_err-part.ensures)

pub overflow_sub-node : goal.overflow_sub-node
overflow_sub-node c =
    omega (arith, (again_held c.args.s.now c.args.names.now c.args.at c.requires c.line_end-e.ensures c.in_ok-part.ensures).some)

pub print_node-requires : goal.print_node-requires
print_node-requires c =
    let held = again_held c.args.s.now c.args.names.now c.args.at c.requires c.line_end-e.ensures c.in_ok-part.ensures in
    record { named_node = node_named c.args.s.now c.args.names.now c.args.at held; node_len_bound = node_short c.args.s.now c.args.names.now c.args.at held }

pub returns : goal.returns
returns c =
    let held = again_held c.args.s.now c.args.names.now c.args.at c.requires c.line_end-e.ensures c.in_ok-part.ensures in
    gives_rule c.args.s.now c.args.names.now c.args.at held c.print_node.ensures
