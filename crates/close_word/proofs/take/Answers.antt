-- `take` meets its contract. Assumes nothing.
use native.Mathlib.Omega.{arith}
use mathlib.Core.Path.{refl}
use Rattle.close_rules.proofs.KindNumbers.{other_number}
use Rattle.close_word.proofs.Taking.{item_inside, item_kept, visit_keeps, taken}
use Rattle.close_word.proofs.take.Goals as goal

pub take_looks-requires : goal.take_looks-requires
take_looks-requires c =
    record { workable = c.requires.workable; item_at = (c.requires.item_at, rw c.in-Look.is at c.kind_of.ensures) }

pub visit-requires : goal.visit-requires
visit-requires c =
    record { workable = c.requires.workable; w_value = (refl, other_number _ c.kind_of.ensures c.in_default.not-Look, c.requires.item_at.word) }

pub clear_bit-requires : goal.clear_bit-requires
clear_bit-requires c =
    let visit = c.visit in
    let given = c.requires.workable in
    let at = item_kept c.requires.item_at (visit_keeps given.coded visit.ensures) in
    (omega (arith, item_inside c.requires.item_at given.roomy), at.bit, at.on_list)

pub returns-in_default : goal.returns-in_default
returns-in_default c =
    let visit = c.visit in
    let clear-bit = c.clear_bit in
    let given = c.requires.workable in
    let at = item_kept c.requires.item_at (visit_keeps given.coded visit.ensures) in
    taken _ _ _ _ _ _ _ at (omega (arith, item_inside c.requires.item_at given.roomy)) clear-bit.ensures given.coded visit.ensures
