-- `link_row` meets its contract. Assumes nothing.
use native.Mathlib.Omega.{arith}
use Rattle.close_rules.proofs.KindNumbers.{gate_number, single_number}
use Rattle.close_parents.proofs.Linking.{link_none, link_one, link_two}
use Rattle.close_parents.proofs.Children.{left_below, right_below, row_no_child, row_one_child, row_two_children}
use Rattle.close_parents.proofs.link_row.Goals as goal

pub returns-in-Signal : goal.returns-in-Signal
returns-in-Signal c =
    let a = c.args in
    let o = c.requires in
    link_none _ _ _ _ _ o.coded.1 o.linked_to (row_no_child a.count a.rows.now a.r (rw c.in-Signal.is at c.kind_of.ensures))

pub link-requires : goal.link-requires
link-requires c =
    let a = c.args in
    let o = c.requires in
    let k = gate_number c.kind_of.ensures c.in-And.is in
    let b = left_below a.count a.rows.now a.r o.coded.0 (λ e. omega (arith, e)) in
    (omega (arith, o.linked_to.starts), omega (arith, o.linked_to.edges), omega arith)

pub link-requires-in-And : goal.link-requires-in-And
link-requires-in-And c =
    let a = c.args in
    let o = c.requires in
    let k = gate_number c.kind_of.ensures c.in-And.is in
    let b = right_below a.count a.rows.now a.r o.coded.0 (λ e. omega (arith, e)) k.1 in
    (omega (arith, o.linked_to.starts), omega (arith, o.linked_to.edges), omega arith)

pub returns-in-And : goal.returns-in-And
returns-in-And c =
    let first = c.link.ensures in
    let second = c.link-in-And.ensures in
    let a = c.args in
    let o = c.requires in
    let k = gate_number c.kind_of.ensures c.in-And.is in
    link_two _ _ _ _ _ o.coded.1 o.linked_to _ _ _ (left_below a.count a.rows.now a.r o.coded.0 (λ e. omega (arith, e))) first.heads_after first.nexts_after _ _ _
    (omega (arith, right_below a.count a.rows.now a.r o.coded.0 (λ e. omega (arith, e)) k.1)) second.heads_after second.nexts_after (row_two_children a.count a.rows.now a.r k.1)

pub link-requires-in-Look : goal.link-requires-in-Look
link-requires-in-Look c =
    let a = c.args in
    let o = c.requires in
    let k = single_number c.kind_of.ensures c.in-Look.is in
    let b = left_below a.count a.rows.now a.r o.coded.0 (λ e. omega (arith, e)) in
    (omega (arith, o.linked_to.starts), omega (arith, o.linked_to.edges), omega arith)

pub returns-in-Look : goal.returns-in-Look
returns-in-Look c =
    let only = c.link-in-Look.ensures in
    let a = c.args in
    let o = c.requires in
    let k = single_number c.kind_of.ensures c.in-Look.is in
    link_one _ _ _ _ _ o.coded.1 o.linked_to _ _ _ (left_below a.count a.rows.now a.r o.coded.0 (λ e. omega (arith, e))) only.heads_after only.nexts_after (row_one_child a.count a.rows.now a.r k)
