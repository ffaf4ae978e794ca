-- `visit_look` meets its contract. Assumes nothing.
use native.Mathlib.Omega.{arith}
use mathlib.Core.Path.{◌≡◌}
use mathlib.Core.Logic.{inl, inr, ⊎_elim}
use Prim.Native.Nat.{◌+◌, ◌-◌, ◌/◌}
use Rattle.close_rules.proofs.RowRules.{look_steps}
use Rattle.close_parents.proofs.Linking.{ended}
use Rattle.close_list.proofs.Queueing.{roomy_as}
use Rattle.close_list.proofs.Workable.{row_there}
use Rattle.close_store.proofs.Storing.{notes_then, notes_look, looks_by}
use Rattle.close_looks.proofs.visit_look.Goals as goal

pub look_part-g-requires : goal.look_part-g-requires
look_part-g-requires c =
    let a = c.args in
    let given = c.requires.workable in
    record { row_lt_count = (c.requires.row_lt_count.0, row_there given a.row c.requires.row_lt_count.0, c.requires.row_lt_count.1, given.sized.words_are); sees = c.requires.sees; ended = ended given.linked; list_fits = given.roomy }

pub look_part-requires : goal.look_part-requires
look_part-requires c =
    let a = c.args in
    let given = c.requires.workable in
    record { row_lt_count = (c.requires.row_lt_count.0, omega (arith, row_there given a.row c.requires.row_lt_count.0, c.look_part-g), c.requires.row_lt_count.1, given.sized.words_are); sees = c.look_part-g.ensures.sees_still; ended = ended given.linked; list_fits = roomy_as c.look_part-g.ensures.looks_from.enters.enters.keeps.size given.roomy }

pub returns : goal.returns
returns c =
    let a = c.args in
    let q = a.child.q in
    let k = c.requires.workable.linked in
    let l = c.requires.row_lt_count.0 in
    let below = c.requires.row_lt_count.1 in
    let lower = c.look_part-g.ensures.looks_from in
    let upper = c.look_part.ensures.looks_from in record {
      visits_look = looks_by _ _ _ _ _ _ _ _ _ _ _ _ _ _ _ _ c.requires.workable.inside (look_steps _ _ _ _ _ _ _ _ _ _ _ _ _ _ below lower.steps upper.steps)
          (λ e. notes_then _ _ _
          (notes_look _ _ _ _ _ k _ _ (q - a.offset / 64) _ l _ _ q q below e (λ z. omega (arith, lower.word z)) (λ w h. h) lower.enters)
          (notes_look _ _ _ _ _ k _ _ (q + 1 - a.offset / 64) _ l _ _ (q + 1) (q + 2) below e (λ z. omega (arith, upper.word z)) (λ w. ⊎_elim (λ (h : w ≡ q + 1). inr (omega arith)) (λ h. inl (omega arith))) upper.enters));
      sees_still = c.look_part.ensures.sees_still;
    }
