-- `take_look` meets its contract. Assumes nothing.
use native.Mathlib.Omega.{arith}
use Prim.Native.Nat.{◌+◌, ◌*◌}
use Rattle.close_rules.proofs.Decoding.{look_row, look_in}
use Rattle.close_parents.proofs.Children.{look_below}
use Rattle.close_word.proofs.Taking.{item_inside, item_kept, look_keeps, looked}
use Rattle.close_word.proofs.take_look.Goals as goal

pub visit_look-g-requires : goal.visit_look-g-requires
visit_look-g-requires c =
    let a = c.args in
    let given = c.requires.workable in
    let r = 64 * a.i + a.k in
    let starts = c.requires.item_at.1 in
    record { workable = given; row_lt_count = (look_in a.on.now.count a.on.now.rows.now r a.child.row starts given.coded, look_below a.on.now.count a.on.now.rows.now r a.child.row starts given.coded); sees = c.requires.sees }

pub clear_bit-requires : goal.clear_bit-requires
clear_bit-requires c =
    let a = c.args in
    let given = c.requires.workable in
    let y = look_row a.on.now.count a.on.now.rows.now (64 * a.i + a.k) a.child.row c.requires.item_at.1 in
    let at = item_kept c.requires.item_at.0 (look_keeps given.coded y c.visit_look-g.ensures.visits_look) in
    (omega (arith, item_inside c.requires.item_at.0 given.roomy), at.bit, at.on_list)

pub returns : goal.returns
returns c =
    let clear-bit = c.clear_bit in
    let a = c.args in
    let given = c.requires.workable in
    let y = look_row a.on.now.count a.on.now.rows.now (64 * a.i + a.k) a.child.row c.requires.item_at.1 in
    let at = item_kept c.requires.item_at.0 (look_keeps given.coded y c.visit_look-g.ensures.visits_look) in
    record { takes_off_look = looked _ _ _ _ _ _ _ at (omega (arith, item_inside c.requires.item_at.0 given.roomy)) clear-bit.ensures given.coded _ _ _ _ y c.visit_look-g.ensures.visits_look; sees_still = c.visit_look-g.ensures.sees_still }
