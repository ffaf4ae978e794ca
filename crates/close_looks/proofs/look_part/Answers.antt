-- `look_part` meets its contract. Assumes nothing.
use native.Mathlib.Omega.{arith}
use Prim.Native.Nat.{◌-◌, ◌/◌}
use Rattle.close_rules.proofs.Decoding.{word_in_window, words_cover}
use Rattle.close_shift.proofs.Giving.{gives_as, from_child, from_look}
use Rattle.close_looks.proofs.Seeing.{child_stays, part_small, part_beside, part_whole, part_none, part_some}
use Rattle.close_looks.proofs.look_part.Goals as goal

pub part_of-part-requires : goal.part_of-part-requires
part_of-part-requires c =
    omega (arith, word_in_window _ _ _ c.requires.row_lt_count.3 c.requires.sees.within, c.well_formed)

pub returns-then-part-back : goal.returns-then-part-back
returns-then-part-back c =
    let part_of_lem = c.part_of-part in
    record { looks_from = part_none _ _ _ _ _ _ _ _ _ _ _ _ _ _ (λ t s d a h k. omega (arith, c.if-part-back.true, part_of_lem.ensures.0)); sees_still = c.requires.sees }

pub returns-then-n-p : goal.returns-then-n-p
returns-then-n-p c =
    let part_of_lem = c.part_of-part in
    record { looks_from = part_none _ _ _ _ _ _ _ _ _ _ _ _ _ _ (λ t s d a h k. omega (arith, words_cover _ _ c.requires.row_lt_count.3, c.if-n-p.true, part_of_lem.ensures.0)); sees_still = c.requires.sees }

pub returns-then-part-eq64 : goal.returns-then-part-eq64
returns-then-part-eq64 c =
    let part_of_lem = c.part_of-part in
    let a = c.args in
    record { looks_from = part_none _ _ _ _ _ _ _ _ _ _ _ _ _ _ (λ t s d x h k. part_whole a.up _ a.offset (omega (arith, part_of_lem.ensures.1, c.if-part-eq64.true)) t s d h k); sees_still = c.requires.sees }

pub window_beside-there-requires : goal.window_beside-there-requires
window_beside-there-requires c =
    (word_in_window _ _ _ c.requires.row_lt_count.3 (omega arith), c.requires.sees.window)

pub shift-ticks-requires : goal.shift-ticks-requires
shift-ticks-requires c =
    let a = c.args in
    let part_of_lem = c.part_of-part in
    let if3 = c.if-part-eq64 in
    omega (arith, part_small a.up a.offset, part_of_lem.ensures.1, if3.false)

pub store_look-j-requires : goal.store_look-j-requires
store_look-j-requires c =
    let if2 = c.if-n-p in
    record { row_lt_count = (c.requires.row_lt_count.0, omega (arith, if2.false, c.requires.sees.within), c.requires.row_lt_count.1); ended = c.requires.ended; list_fits = c.requires.list_fits }

pub shift-to_child-requires : goal.shift-to_child-requires
shift-to_child-requires c =
    let a = c.args in
    let part_of_lem = c.part_of-part in
    let if3 = c.if-part-eq64 in
    omega (arith, part_small a.up a.offset, part_of_lem.ensures.1, if3.false)

pub returns : goal.returns
returns c =
    let part_of_lem = c.part_of-part in
    let good = c.well_formed in
    let if1 = c.if-part-back in
    let window-beside = c.window_beside-there in
    let shift = c.shift-ticks in
    let a = c.args in
    let t = c.requires.sees in
    let f = part_of_lem.ensures in
    let b = part_beside a.up _ _ _ _ f.0 f.1 (omega (arith, if1.false)) in record {
      looks_from = part_some _ _ _ _ _ _ _ _ _ _ _ (part_of_lem.result.e - a.offset / 64) _ _ c.requires.row_lt_count.2 (omega (arith, if1.false, f.0))
          (gives_as _ shift.ensures (from_child _ _ _ _ _ _ _ _ _ a.up b window-beside.ensures (omega (arith, good)) (omega (arith, good)) t.reads)) c.store_look-j.ensures.joins
          (gives_as _ c.shift-to_child.ensures (from_look _ _ _ _ _ _ _ _ _ a.up b t.window (omega (arith, c.store_look-j, good)) (omega (arith, c.store_look-j, good)) c.store_look-j.ensures.reads)) (rw f.2 at c.store_look-j.ensures.queues_if) c.join.ensures;
      sees_still = record { within = t.within; window = t.window; reads = child_stays _ _ _ _ _ c.requires.row_lt_count.2 c.store_look-j.ensures.joins t.reads };
    }
