-- `window_word` meets its contract. Assumes nothing.
use native.Mathlib.Omega.{arith}
use mathlib.Core.Path.{refl}
use Prim.Native.Nat.{◌-◌, ◌*◌}
use Rattle.table_words.proofs.OneWord.{window_all, window_last}
use Rattle.table_words.proofs.window_word.Goals as goal

pub returns-then-rest-ge64 : goal.returns-then-rest-ge64
returns-then-rest-ge64 c = window_all _ _ c.if-rest-ge64.true

pub returns : goal.returns
returns c =
    let a = c.args in
    window_last _ _ (a.window - a.q * 64) refl (omega arith) (omega arith)
