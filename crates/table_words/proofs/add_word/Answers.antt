-- `add_word` meets its contract. Assumes nothing.
use native.Mathlib.Omega.{arith}
use Rattle.table_words.proofs.Gaining.{joins_none, joins_some}
use Rattle.table_words.proofs.add_word.Goals as goal

pub returns-then-new-old : goal.returns-then-new-old
returns-then-new-old c =
    let a = c.args in
    let place_of = c.place_of-i in
    let o = c.requires in
    joins_none _ _ _ a.value _ _ o.0 _ place_of.ensures.0 (omega (arith, o.1, place_of.ensures.1)) c.if-new-old.true

pub returns : goal.returns
returns c =
    let a = c.args in
    let place_of = c.place_of-i in
    let o = c.requires in
    joins_some _ _ _ a.value _ _ o.0 _ place_of.ensures.0 (omega (arith, o.1, place_of.ensures.1))
    (omega arith) (omega arith) c.if-new-old.false
