-- `add_words` meets its contract. Assumes nothing.
use native.Mathlib.Omega.{arith}
use lib.ListN.{length-set}
use Rattle.table_words.proofs.Gaining.{sides_none, sides_some, words_none, words_some}
use Rattle.table_words.proofs.add_words.Goals as goal

pub returns-then-this-a-eq0 : goal.returns-then-this-a-eq0
returns-then-this-a-eq0 c =
    let a = c.args in
    let place-of2 = c.place_of-j in
    let o = c.requires in
    let p = c.place_of-i.ensures in
    let r = place-of2.ensures in record { joins = sides_none _ _ _ a.u _ _ _ o.0 _ _ p.0 r.0 (omega (arith, o.1, p.1)) (omega (arith, o.1, r.1)) c.if-this-a-eq0.true; reads = words_none _ _ _ a.u _ _ _ o.0 _ _ p.0 r.0 (omega (arith, o.1, p.1)) (omega (arith, o.1, r.1)) c.if-this-a-eq0.true }

pub bounds-marks-j-2 : goal.bounds-marks-j-2
bounds-marks-j-2 c =
    let asked = c.requires in
    let place-of2 = c.place_of-j in
    rw length-set (omega (arith, asked.1, place-of2.ensures.1))

pub returns : goal.returns
returns c =
    let place_of = c.place_of-i in
    let a = c.args in
    let place-of2 = c.place_of-j in
    let o = c.requires in
    let p = place_of.ensures in
    let r = place-of2.ensures in record {
      joins = sides_some _ _ _ a.u _ _ _ o.0 _ _ p.0 r.0 (omega (arith, o.1, p.1)) (omega (arith, o.1, r.1))
          (omega arith) (omega arith) (omega arith) (omega arith) c.if-this-a-eq0.false;
      reads = words_some _ a.marks.now _ a.u _ _ _ o.0 _ _ p.0 r.0 (omega (arith, o.1, p.1)) (omega (arith, o.1, r.1));
    }
