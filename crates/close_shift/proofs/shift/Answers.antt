-- `shift` meets its contract. Assumes nothing.
use mathlib.Core.Path.{sym, ap}
use mathlib.Core.Bool.{Bool}
use Rattle.close_shift.specs.ShiftedWords.{shifted_word}
use Rattle.close_shift.proofs.shift.Goals as goal

pub returns-then-up : goal.returns-then-up
returns-then-up c =
    let if1 = c.if-up in
    let a = c.args in
    (ap (λ (u : Bool). shifted_word u a.within a.k a.w.this) (sym if1.true), ap (λ (u : Bool). shifted_word u a.within a.k a.w.other) (sym if1.true))

pub returns : goal.returns
returns c =
    let if1 = c.if-up in
    let a = c.args in
    (ap (λ (u : Bool). shifted_word u a.within a.k a.w.this) (sym if1.false), ap (λ (u : Bool). shifted_word u a.within a.k a.w.other) (sym if1.false))
