-- `word_at` meets its contract. Assumes nothing.
use mathlib.Core.Path.{ap}
use Prim.Native.Nat.{ℕ}
use lib.ListN.{get_or}
use Rattle.table_words.proofs.word_at.Goals as goal

pub returns : goal.returns
returns c =
    let a = c.args in
    ap (λ (i : ℕ). get_or a.marks.now i 0) c.place_of-i.ensures.0
