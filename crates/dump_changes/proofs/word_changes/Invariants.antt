-- `word_changes` meets its contract. The invariant: the ticks are those of the first `row` rows. Assumes nothing.
use Rattle.table_words.specs.WordTicks.{Ticks}
use Rattle.dump_changes.specs.WordSigns.{Changes}
use Rattle.dump_changes.proofs.word_changes.Given as goal

abbrev pub invariant-loop-row : goal.invariant-loop-row
invariant-loop-row l = Ticks l.q l.ticks (Changes l.n l.table l.row)
