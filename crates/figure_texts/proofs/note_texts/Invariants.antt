-- `note_texts` meets its contract. The invariant: the texts before i are read, text i starts at `at`, and their notes are kept in the first `used` places.
-- Assumes nothing.
use mathlib.Core.Path.{◌≡◌}
use lib.ListN.{length}
use Rattle.read_index.specs.Index.{names_in}
use Rattle.figure_texts.proofs.Cutting.{TextsRead}
use Rattle.figure_texts.proofs.Keeping.{KeptBefore}
use Rattle.figure_texts.proofs.note_texts.Given as goal

abbrev pub invariant-loop-i : goal.invariant-loop-i
invariant-loop-i l =
    (length l.noted ≡ length l.initial.noted) × (length l.kept ≡ length l.initial.kept)
    × TextsRead (names_in l.s l.names) l.window l.lengths l.texts l.i l.at × KeptBefore (names_in l.s l.names) l.window l.lengths l.texts l.noted l.kept l.i l.used
