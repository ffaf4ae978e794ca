-- `words_at` meets its contract. Assumes nothing.
use mathlib.Core.Bool.{not}
use Rattle.table_words.proofs.OneWord.{read_ticks}
use Rattle.table_words.proofs.words_at.Goals as goal

pub returns : goal.returns
returns c =
    let a = c.args in
    let o = c.requires in
    record { this = read_ticks _ _ _ a.u _ o.0 c.word_at-this.ensures; other = read_ticks _ _ _ (not a.u) _ o.0 c.word_at-other.ensures }
