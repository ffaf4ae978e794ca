-- `part_of` meets its contract. Assumes nothing.
use mathlib.Core.Path.{sym, ap}
use mathlib.Core.Bool.{Bool}
use Rattle.close_shift.specs.ShiftedWords.{end_of, apart}
use Rattle.close_looks.specs.Parts.{next_of}
use Rattle.close_looks.proofs.part_of.Goals as goal

pub returns-then-up : goal.returns-then-up
returns-then-up c =
    let a = c.args in
    let e = sym c.if-up.true in
    (ap (λ (u : Bool). end_of u a.q) e, ap (λ (u : Bool). apart u a.offset) e, ap (λ (u : Bool). next_of u a.q) e)

pub returns : goal.returns
returns c =
    let a = c.args in
    let e = sym c.if-up.false in
    (ap (λ (u : Bool). end_of u a.q) e, ap (λ (u : Bool). apart u a.offset) e, ap (λ (u : Bool). next_of u a.q) e)
