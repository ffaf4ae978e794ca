-- `work_word` meets its contract. The invariant: a series of visits. The measure: the table's room, and then the word. Assumes nothing.
use Prim.Native.Nat.{◌+◌, ◌*◌, ◌^◌, ◌<◌}
use lib.ListN.{get_or}
use Rattle.table_words.specs.WordTicks.{room}
use Rattle.close_word.specs.VisitSeries.{WorksList, NoWord}
use Rattle.close_word.proofs.work_word.Given as goal

abbrev pub invariant-loop-todo : goal.invariant-loop-todo
invariant-loop-todo l =
    WorksList l.on.count l.on.rows.now l.on.window l.n NoWord l.initial.marks l.marks l.initial.todo l.todo × (l.from < 64)

abbrev pub decreases-loop-todo : goal.decreases-loop-todo
decreases-loop-todo l =
    room l.marks * 2 ^ 64 + get_or l.todo l.j 0
