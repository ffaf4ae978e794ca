-- `window_beside` meets its contract. Assumes nothing.
use mathlib.Core.Path.{sym, subst}
use Prim.Native.Nat.{ℕ, ◌<◌}
use Rattle.table_words.specs.WordTicks.{Ticks}
use Rattle.close_shift.proofs.window_beside.Goals as goal

pub returns-then-p-q : goal.returns-then-p-q
returns-then-p-q c =
    let a = c.args in
    subst (λ (w : ℕ). Ticks w a.here (λ t. t < a.window)) (sym c.if-p-q.true) c.requires.1
