-- `child_at` meets its contract. Assumes nothing.
use Rattle.close_rules.proofs.Decoding.{word_in_window}
use mathlib.Core.Path.{refl}
use Rattle.close_looks.proofs.child_at.Goals as goal

pub window_word-here-requires : goal.window_word-here-requires
window_word-here-requires c =
    let o = c.requires in
    word_in_window _ _ _ o.2 o.0

pub returns : goal.returns
returns c =
    let asked = c.requires in
    (refl, refl, record { within = asked.0; window = c.window_word-here.ensures; reads = c.words_at-words.ensures })
