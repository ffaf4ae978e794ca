-- `turned` meets its contract. Assumes nothing.
use mathlib.Core.Path.{sym, ap}
use mathlib.Core.Bool.{Bool}
use Rattle.close_table.specs.Rounds.{turn}
use Rattle.close_table.proofs.rounds.turned.Goals as goal

pub returns : goal.returns
returns c =
    let a = c.args in
    ap (λ (u : Bool). turn u a.m a.i) (sym c.if-up.false)
