-- `visit` meets its contract. Assumes nothing.
use native.Mathlib.Omega.{arith}
use mathlib.Core.Path.{◌≡◌}
use Prim.Native.Nat.{◌<◌}
use Rattle.close_rules.proofs.KindNumbers.{single_number}
use Rattle.close_rules.proofs.Decoding.{kind, row_in}
use Rattle.close_parents.proofs.Children.{left_below, right_below}
use Rattle.close_list.proofs.Workable.{queueable}
use Rattle.close_gates.proofs.Visiting.{visits_as, visits_not, visits_signal}
use Rattle.close_gates.proofs.visit.Goals as goal

pub visit_gate-requires : goal.visit_gate-requires
visit_gate-requires c =
    let a = c.args in
    let given = c.requires.workable in
    let o = c.requires.w_value in
    let k : kind a.on.now.count a.on.now.rows.now a.r ≡ 1 = rw o.0 at (rw c.in-And.is at c.kind_of.ensures) in
    let some : kind a.on.now.count a.on.now.rows.now a.r ≡ 0 → ⊥ = λ e. omega (arith, e) in
    record { queueable = queueable given; has_rows = rw o.0 (given.sized.long, row_in a.on.now.count a.on.now.rows.now a.r given.coded some, o.2, left_below _ _ _ given.coded some, right_below _ _ _ given.coded some (omega arith)) }

pub visit_gate-requires-in-Or : goal.visit_gate-requires-in-Or
visit_gate-requires-in-Or c =
    let a = c.args in
    let given = c.requires.workable in
    let o = c.requires.w_value in
    let k : kind a.on.now.count a.on.now.rows.now a.r ≡ 2 = rw o.0 at (rw c.in-Or.is at c.kind_of.ensures) in
    let some : kind a.on.now.count a.on.now.rows.now a.r ≡ 0 → ⊥ = λ e. omega (arith, e) in
    record { queueable = queueable given; has_rows = rw o.0 (given.sized.long, row_in a.on.now.count a.on.now.rows.now a.r given.coded some, o.2, left_below _ _ _ given.coded some, right_below _ _ _ given.coded some (omega arith)) }

pub visit_not-requires : goal.visit_not-requires
visit_not-requires c =
    let a = c.args in
    let given = c.requires.workable in
    let o = c.requires.w_value in
    let k : 2 < kind a.on.now.count a.on.now.rows.now a.r = rw o.0 at (single_number c.kind_of.ensures c.in-Look.is) in
    let some : kind a.on.now.count a.on.now.rows.now a.r ≡ 0 → ⊥ = λ e. omega (arith, e) in
    record { queueable = queueable given; has_rows = rw o.0 (given.sized.long, row_in a.on.now.count a.on.now.rows.now a.r given.coded some, o.2, left_below _ _ _ given.coded some) }

pub returns-in-Signal : goal.returns-in-Signal
returns-in-Signal c = visits_signal _ _ _ _ _ _ _ _ (rw c.requires.w_value.0 at (rw c.in-Signal.is at c.kind_of.ensures))

pub returns-in-And : goal.returns-in-And
returns-in-And c =
    let a = c.args in
    let o = c.requires in
    let k : kind a.on.now.count a.on.now.rows.now a.r ≡ 1 = rw o.w_value.0 at (rw c.in-And.is at c.kind_of.ensures) in
    visits_as _ _ _ _ _ _ _ _ _ _ (row_in a.on.now.count a.on.now.rows.now a.r o.workable.coded (λ e. omega (arith, e))) 1 k (rw o.w_value.0 at (c.visit_gate.ensures a.on.now.window))

pub returns-in-Or : goal.returns-in-Or
returns-in-Or c =
    let a = c.args in
    let o = c.requires in
    let k : kind a.on.now.count a.on.now.rows.now a.r ≡ 2 = rw o.w_value.0 at (rw c.in-Or.is at c.kind_of.ensures) in
    visits_as _ _ _ _ _ _ _ _ _ _ (row_in a.on.now.count a.on.now.rows.now a.r o.workable.coded (λ e. omega (arith, e))) 2 k (rw o.w_value.0 at (c.visit_gate-in-Or.ensures a.on.now.window))

pub returns-in-Look : goal.returns-in-Look
returns-in-Look c =
    let a = c.args in
    let o = c.requires in
    let k : 2 < kind a.on.now.count a.on.now.rows.now a.r = rw o.w_value.0 at (single_number c.kind_of.ensures c.in-Look.is) in
    visits_not _ _ _ _ _ _ _ _ _ _ (row_in a.on.now.count a.on.now.rows.now a.r o.workable.coded (λ e. omega (arith, e))) (omega (arith, rw o.w_value.0 at o.w_value.1)) (rw o.w_value.0 at (c.visit_not.ensures a.on.now.window))
