-- `visit_gate` meets its contract. Assumes nothing.
use native.Mathlib.Omega.{arith}
use mathlib.Core.Path.{◌∙◌}
use Prim.Native.Nat.{◌<◌}
use Rattle.close_rules.proofs.Decoding.{has_row}
use Rattle.close_rules.proofs.RowRules.{gate_ticks, gate_steps}
use Rattle.close_parents.proofs.Linking.{ended}
use Rattle.close_list.proofs.Workable.{queueable_as}
use Rattle.close_store.proofs.Storing.{notes_but, notes_then, notes_parents, rests_here, visits_by}
use Rattle.close_gates.proofs.visit_gate.Goals as goal

pub words_at-r-requires : goal.words_at-r-requires
words_at-r-requires c =
    let a = c.args in
    let o = c.requires.has_rows in
    (o.2, has_row a.n a.on.now.count a.marks.now a.row o.0 o.1)

pub words_at-x-requires : goal.words_at-x-requires
words_at-x-requires c =
    let a = c.args in
    let o = c.requires.has_rows in
    (o.2, has_row a.n a.on.now.count a.marks.now a.a o.0 (omega (arith, o.1, o.3)))

pub words_at-y-requires : goal.words_at-y-requires
words_at-y-requires c =
    let a = c.args in
    let o = c.requires.has_rows in
    (o.2, has_row a.n a.on.now.count a.marks.now a.b o.0 (omega (arith, o.1, o.4)))

pub store_own-requires : goal.store_own-requires
store_own-requires c =
    let asked = c.requires in
    let a = c.args in
    let given = asked.queueable in
    let o = asked.has_rows in
    record { row_lt_count = (o.1, o.2, has_row a.n a.on.now.count a.marks.now a.row o.0 o.1); ended = ended given.linked; list_fits = given.roomy }

pub store_child-requires : goal.store_child-requires
store_child-requires c =
    let asked = c.requires in
    let a = c.args in
    let o = asked.has_rows in
    let own = c.store_own.ensures in
    let l : a.a < a.on.now.count = omega (arith, o.1, o.3) in
    record { queueable = queueable_as own.queues_if.enters.keeps.size asked.queueable; x_lt_count = (l, o.2, omega (arith, has_row a.n a.on.now.count a.marks.now a.a o.0 l, own.joins.gains.size)) }

pub store_child-requires-2 : goal.store_child-requires-2
store_child-requires-2 c =
    let asked = c.requires in
    let a = c.args in
    let o = asked.has_rows in
    let own = c.store_own.ensures in
    let left = c.store_child.ensures in
    let l : a.b < a.on.now.count = omega (arith, o.1, o.4) in
    record { queueable = queueable_as (left.notes.keeps.size ∙ own.queues_if.enters.keeps.size) asked.queueable; x_lt_count = (l, o.2, omega (arith, has_row a.n a.on.now.count a.marks.now a.b o.0 l, own.joins.gains.size, left.joins.gains.size)) }

pub returns : goal.returns
returns c =
    let words-at = c.words_at-r in
    let words-at2 = c.words_at-x in
    let words-at3 = c.words_at-y in
    let a = c.args in
    let o = c.requires in
    let own = c.store_own.ensures in
    let left = c.store_child.ensures in
    let right = c.store_child-2.ensures in
    let w = gate_ticks words-at.ensures words-at2.ensures words-at3.ensures in
    λ W. visits_by _ _ _ _ _ _ W _ _ _ _ _ _ (gate_steps _ _ _ _ _ _ _ _ _ _ _ _ _ o.has_rows.3 o.has_rows.4 _ _ _ w.0 w.1 w.2 own.joins left.joins right.joins W)
    (λ e. notes_then _ _ _ (notes_parents _ _ _ _ _ o.queueable.linked _ _ _ _ o.has_rows.1 (rests_here a.on.now.rows.now a.row _ e (λ w s. s.0)) own.queues_if)
    (notes_then _ _ _ (notes_but _ _ _ left.notes) (notes_but _ _ _ right.notes)))
